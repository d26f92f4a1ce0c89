-- The forms of text.
use Rattle.pgv_text.specs.declared.scanner.TextForm.{TextForm}
use Rattle.pgv_text.specs.declared.scanner.TextForm.TheVariants.{Array, Range, Record}
use Rattle.pgv_text.specs.NestPieces.{Form}
use Rattle.pgv_text.specs.ArrayText.{array_form}
use Rattle.pgv_text.specs.RangeText.{range_form}
use Rattle.pgv_text.specs.RecordText.{record_form}

abbrev pub form_of : TextForm → Form
form_of Array = array_form
form_of Range = range_form
form_of Record = record_form
