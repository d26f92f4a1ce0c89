-- What contracts see of the fields of a buffer.
use Rattle.std.specs.Prelude.{List, map}
use Rattle.pgv_buf.specs.declared.tokens.Tokens.TheInside.{Inside}
use Rattle.pgv_buf.specs.declared.fill.Slot.{Slot}
use Rattle.pgv_buf.specs.Tokens.{Cell}
use Rattle.pgv_buf.specs.CasesView.{cases_of}
use Rattle.pgv_buf.specs.Layout.{Kept, Layout, cells_of, Valid}

abbrev pub kept_of : Slot → Kept
kept_of s = record { standard = s.standard.items; cases = cases_of s.cases.items }

abbrev pub layout_in : Inside → Layout
layout_in a = record { holes = a.holes; types = a.types.items; slot_places = a.slot_places; slots = map kept_of a.slots.items }

abbrev pub cells_view : Inside → List Cell
cells_view a = cells_of a.bytes.items (layout_in a)

abbrev pub IsValid : Inside → Type 0
IsValid a = Valid a.bytes.items (layout_in a)
