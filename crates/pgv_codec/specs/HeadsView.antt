-- The head of an array, without where it lies in memory.
use Rattle.pgv_codec.specs.declared.nest.array.ArrayHead.{ArrayHead}
use Rattle.pgv_codec.specs.ArrayGrammar.{Head}

abbrev pub head_shown : ArrayHead → Head
head_shown h = record { element = h.element; count = h.count; frames = h.frames.now }
