-- A body that is a list: the number of its things in two bytes, and these, one after another; nothing comes after them.
-- How it is read (`counted`): what isn't there is C15, and bytes after the last thing are C17. It is read exactly where
-- it is that list (`IsCounted`).
use Rattle.std.specs.Prelude.{◌≡◌, ℕ, ◌<◌, ◌^◌, ◌==◌, not, true, List, ◌++◌, length, flat_map}
use Rattle.std.specs.Int.{w16, to_be_bytes}
use Rattle.std.specs.List.{AllByRecursion}
use Rattle.pgv_types.specs.declared.oid.Oid.{Oid}
use Rattle.pgv_value.specs.declared.error.CodecError.TheVariants.{WrongLength}
use Rattle.pgv_value.specs.Fronts.{u16_front, u32_front}
use Rattle.pgv_value.specs.Outcome.{Outcome, after, in_place, allocates, fails_if, done, ◌>>=◌, ◌>>◌}
use Rattle.pgv_value.specs.Several.{several}
use Rattle.pgv_message.specs.Pieces.{oid_bytes}

unfoldable pub counted : {A : Type 0} → (List ℕ → Outcome (A × List ℕ)) → List ℕ → Outcome (List A)
counted one bytes = do
  count ← in_place (u16_front bytes)
  allocates true
  list ← several one count.0 count.1
  fails_if (not (length list.1 == 0)) (WrongLength (length bytes))
  done list.0

pub record IsCounted {A : Type 0} (Is : A → Type 0) (encode : A → List ℕ) (bytes : List ℕ) (list : List A) : Type 0 where
  pub whole : bytes ≡ to_be_bytes w16 (length list) ++ flat_map encode list
  pub many : length list < 2 ^ 16
  pub each : AllByRecursion Is list

-- ---- ParameterDescription (PostgreSQL: "Message Formats", ParameterDescription): the OIDs of a statement's
-- parameters, of four bytes each

unfoldable pub oid_front : List ℕ → Outcome (Oid × List ℕ)
oid_front bytes = in_place (u32_front bytes) >>= λ o. done (record { 0 = o.0 }, o.1)

-- as many OIDs, where memory may have been asked for
abbrev pub oids_front : ℕ → List ℕ → Outcome (List Oid × List ℕ)
oids_front count bytes = after true (several oid_front count bytes)

abbrev pub parameters : List ℕ → Outcome (List Oid)
parameters = counted oid_front

abbrev pub IsOid : Oid → Type 0
IsOid o = o.0 < 2 ^ 32

abbrev pub AreParameters : List ℕ → List Oid → Type 0
AreParameters = IsCounted IsOid oid_bytes
