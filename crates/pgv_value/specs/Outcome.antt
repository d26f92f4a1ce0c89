-- What a reader gives: a view of the value or the error, and whether memory may have been asked for by then. A grammar
-- is one function into an outcome, written step by step with `do`: the first step that fails says why, and memory may
-- have been asked for where one of the steps that were taken may ask for it. A step that never asks for memory is
-- `in_place` a `Parsed`. What a reader promises is then one clause, `Gives`, and of one that asks for no memory
-- `GivesExactly`.
use Rattle.std.specs.Prelude.{◌≡◌, ◌≢◌, ◌⊎◌, ℕ, Bool, true, false, ◌||◌, List, Option, Some, None, is_some, Result, Ok, Err, ok_or, if◌then◌else◌, ⊤}
use Rattle.pgv_types.specs.Ty.{Ty}
use Rattle.pgv_types.specs.Facts.{is_custom}
use Rattle.pgv_value.specs.declared.error.CodecError.{CodecError}
use Rattle.pgv_value.specs.declared.error.CodecError.TheVariants.{Memory}
use Rattle.pgv_value.specs.Parsed.{Parsed}
use Rattle.pgv_value.specs.Reading.{Reading, has_items}
use Rattle.pgv_value.specs.ValueView.{Given, given}
use Rattle.pgv_value.specs.declared.value.PgValueFormat.{PgValueFormat}

-- what is read or the error, where it is stated, and whether memory may have been asked for by then
pub record Outcome (M : Type 0) : Type 0 where
  pub answer : Result M (Option CodecError)
  pub may_alloc : Bool

-- The error is the one that is stated; or any but out of memory, where none is; or out of memory, where it may be asked
-- for.
abbrev pub Fails : {M : Type 0} → CodecError → Outcome M → Type 0
Fails e o = (o.answer ≡ Err (Some e)) ⊎ (((o.answer ≡ Err None) × (e ≢ Memory)) ⊎ ((e ≡ Memory) × (o.may_alloc ≡ true)))

-- what was returned, seen by view, is the outcome, unless memory ran out where it may have been asked for
abbrev pub Gives : {V M : Type 0} → (V → M) → Outcome M → Result V CodecError → Type 0
Gives view o (Ok v) = o.answer ≡ Ok (view v)
Gives view o (Err e) = Fails e o

-- ---- steps

abbrev pub done : {M : Type 0} → M → Outcome M
done m = record { answer = Ok m; may_alloc = false }

abbrev pub fails : {M : Type 0} → CodecError → Outcome M
fails e = record { answer = Err (Some e); may_alloc = false }

-- refused, and with which error isn't said
abbrev pub unstated : {M : Type 0} → Outcome M
unstated = record { answer = Err None; may_alloc = false }

-- memory is asked for, if this holds
abbrev pub allocates : Bool → Outcome ⊤
allocates b = record { answer = Ok tt; may_alloc = b }

abbrev pub stated : {M : Type 0} → Parsed M → Result M (Option CodecError)
stated (Ok m) = Ok m
stated (Err e) = Err (Some e)

-- of a value of a row this is read
abbrev pub Reads : {M : Type 0} → (Given → Outcome M) → Given → M → Type 0
Reads parse v m = (parse v).answer ≡ Ok m

-- what is read without memory
abbrev pub in_place : {M : Type 0} → Parsed M → Outcome M
in_place parsed = record { answer = stated parsed; may_alloc = false }

-- the same of a value of a row
abbrev pub without_memory : {M : Type 0} → (Given → Parsed M) → Given → Outcome M
without_memory parse v = in_place (parse v)

-- refused with this error, if this holds
abbrev pub fails_if : Bool → CodecError → Outcome ⊤
fails_if b e = in_place (if b then Err e else Ok tt)

-- refused with this error, if nothing is there
abbrev pub or_fail : {M : Type 0} → Option M → CodecError → Outcome M
or_fail found e = in_place (ok_or found e)

-- an outcome after memory may have been asked for
abbrev pub after : {M : Type 0} → Bool → Outcome M → Outcome M
after b o = record { answer = o.answer; may_alloc = b || o.may_alloc }

abbrev pub bind_by : {A B : Type 0} → Result A (Option CodecError) → Bool → (A → Outcome B) → Outcome B
bind_by (Ok x) b next = after b (next x)
bind_by (Err why) b next = record { answer = Err why; may_alloc = b }

-- one step after the other, unless it fails
infixl 10 ◌>>=◌
abbrev pub ◌>>=◌ : {A B : Type 0} → Outcome A → (A → Outcome B) → Outcome B
o >>= next = bind_by o.answer o.may_alloc next

infixl 10 ◌>>◌
abbrev pub ◌>>◌ : {B : Type 0} → Outcome ⊤ → Outcome B → Outcome B
o >> next = o >>= λ _. next

-- ---- the parts of an outcome

abbrev pub ok_of : {M E : Type 0} → Result M E → Option M
ok_of (Ok m) = Some m
ok_of (Err e) = None

abbrev pub why_of : {M : Type 0} → Result M (Option CodecError) → Option CodecError
why_of (Ok m) = None
why_of (Err why) = why

-- what a grammar reads, where it reads something
abbrev pub reading_of : {M : Type 0} → (Given → Outcome M) → Reading M
reading_of parse t format bytes = ok_of (parse (given t format bytes)).answer

-- the error that it states, where it reads nothing and states one
abbrev pub error_of : {M : Type 0} → (Given → Outcome M) → Ty → PgValueFormat → Option (List ℕ) → Option CodecError
error_of parse t format bytes = why_of (parse (given t format bytes)).answer

-- whether memory may be asked for by then
abbrev pub takes_of : {M : Type 0} → (Given → Outcome M) → Ty → PgValueFormat → Option (List ℕ) → Bool
takes_of parse t format bytes = (parse (given t format bytes)).may_alloc

-- a list that is copied: memory is asked for where it isn't empty
abbrev pub copied : {X : Type 0} → Parsed (List X) → Outcome (List X)
copied parsed = do
  items ← in_place parsed
  allocates (has_items (Some items))
  done items

-- a type that is copied: memory is asked for where it is a custom one
abbrev pub copied_type : Ty → Outcome Ty
copied_type t = record { answer = Ok t; may_alloc = is_custom t }

-- a value by reference: its type is copied
abbrev pub lent_value : Given → Outcome Given
lent_value v = record { answer = Ok v; may_alloc = is_custom v.type_info }

-- a value without a borrow: its type is copied, and its bytes, if it has some
abbrev pub owned_value : Given → Outcome Given
owned_value v = record { answer = Ok v; may_alloc = is_custom v.type_info || is_some v.bytes }

-- ---- what bytes are, and what is read from them

-- What was returned is what is there, and whatever is there is what was returned, unless memory ran out.
abbrev pub IsRead : {V M : Type 0} → (V → M) → (M → Type 0) → Result V CodecError → Type 0
IsRead view Is (Ok v) = Is (view v) × ((m : _) → Is m → view v ≡ m)
IsRead view Is (Err e) = (m : _) → Is m → e ≡ Memory

-- The outcome of a whole, and that what was returned is exactly what is there.
abbrev pub GivesWhole : {V M : Type 0} → (V → M) → Outcome M → (M → Type 0) → Result V CodecError → Type 0
GivesWhole view o Is result = Gives view o result × IsRead view Is result

-- What was returned is the outcome; an error is the outcome's where this holds, and else not said.
abbrev pub GivesWhere : {V M : Type 0} → Bool → (V → M) → Outcome M → Result V CodecError → Type 0
GivesWhere b view o (Ok v) = o.answer ≡ Ok (view v)
GivesWhere b view o (Err e) = b ≡ true → Fails e o
