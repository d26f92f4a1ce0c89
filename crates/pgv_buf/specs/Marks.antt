-- Numbers of bytes, holes and slots.
use Rattle.std.specs.Prelude.{◌≡◌, ℕ, List}
use Rattle.pgv_buf.specs.declared.mark.Mark.{Mark}
use Rattle.pgv_buf.specs.Tokens.{Cell, width, hole_count, slot_count}

abbrev pub mark_of : List Cell → Mark
mark_of ts = record { bytes = width ts; holes = hole_count ts; slots = slot_count ts }

pub same_mark : {a b c a' b' c' : ℕ} → a ≡ a' → b ≡ b' → c ≡ c' → ◌≡◌ {A = Mark} (record { bytes = a; holes = b; slots = c }) (record { bytes = a'; holes = b'; slots = c' })
same_mark e f g = cc
