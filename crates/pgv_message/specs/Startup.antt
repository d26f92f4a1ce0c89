-- The message that starts a session (PostgreSQL: "Message Formats", StartupMessage): the version of the protocol, 3.0,
-- the settings, each a name and a value, and a zero byte. It has no tag.
use Rattle.std.specs.Prelude.{ℕ, Bool, ◌||◌, List, [], ◌∷◌, ◌++◌, flat_map, Err, if◌then◌else◌}
use Rattle.std.specs.List.{list_any}
use Rattle.std.specs.Int.{w32, to_be_bytes}
use Rattle.pgv_message.specs.declared.error.MessageError.TheVariants.{ZeroByte}
use Rattle.pgv_message.specs.declared.startup.PgSetting.{PgSetting}
use Rattle.pgv_copy.specs.CopyPieces.{joined}
use Rattle.pgv_message.specs.MessageWriting.{Writing, text, has_zero, whole_message}

abbrev pub setting_has_zero : PgSetting → Bool
setting_has_zero s = has_zero s.name.now || has_zero s.value.now

abbrev pub setting_bytes : PgSetting → List ℕ
setting_bytes s = text s.name.now ++ text s.value.now

-- version 3.0
abbrev pub version : ℕ
version = 196608

unfoldable pub startup : List PgSetting → Writing (List ℕ)
startup settings =
    if list_any setting_has_zero settings then Err ZeroByte else
    whole_message [] (joined (to_be_bytes w32 version ∷ flat_map setting_bytes settings ∷ (0 ∷ []) ∷ []))
