-- How a message is written, and what a call that writes one leaves. A message (PostgreSQL: "Message Formats") is a byte
-- that names it, its length in four bytes, which counts these four, and its body (`whole_message`). A text in a body
-- ends with a zero byte, so it has none itself (`ended_text`). What is counted in two bytes is at most 65535
-- (`count_of`). The first step that is refused refuses the message.
use Rattle.std.specs.Prelude.{◌≡◌, ℕ, nat_lt, ◌+◌, ◌==◌, ◌⊎◌, List, [], ◌∷◌, ◌++◌, length, Bool, ⊤, Result, Ok, Err, if◌then◌else◌}
use Rattle.std.specs.List.{list_any}
use Rattle.std.specs.Int.{w16, w32, to_be_bytes}
use Rattle.pgv_message.specs.declared.error.MessageError.{MessageError}
use Rattle.pgv_message.specs.declared.error.MessageError.TheVariants.{Memory, ZeroByte, TooMany, TooLong}

-- what is written, or why it is refused
abbrev pub Writing : Type 0 → Type 0
Writing A = Result A MessageError

-- one step after the other, where neither is refused
infixl 10 ◌>>=◌
abbrev pub ◌>>=◌ : {A B : Type 0} → Writing A → (A → Writing B) → Writing B
(Ok x) >>= next = next x
(Err e) >>= next = Err e

abbrev pub has_zero : List ℕ → Bool
has_zero bytes = list_any (λ b. b == 0) bytes

-- a text and the zero byte that ends it
abbrev pub text : List ℕ → List ℕ
text bytes = bytes ++ 0 ∷ []

unfoldable pub ended_text : List ℕ → Writing (List ℕ)
ended_text bytes = if has_zero bytes then Err ZeroByte else Ok (text bytes)

unfoldable pub count_of : ℕ → Writing (List ℕ)
count_of n = if nat_lt 65535 n then Err (TooMany n) else Ok (to_be_bytes w16 n)

-- the largest length of a body: with its own four bytes it is 2147483647
abbrev pub max_body : ℕ
max_body = 2147483643

-- the length of a body, and the body
abbrev pub measured : List ℕ → List ℕ
measured body = to_be_bytes w32 (length body + 4) ++ body

-- a message under a tag; the message that starts a session has no tag
unfoldable pub whole_message : List ℕ → List ℕ → Writing (List ℕ)
whole_message tag body = if nat_lt max_body (length body) then Err TooLong else Ok (tag ++ measured body)

-- ---- what a call leaves

-- the bytes after a call that appends these, or is refused and leaves all as it was
abbrev pub appended : Bool → List ℕ → List ℕ → List ℕ
appended taken old bytes = if taken then old ++ bytes else old

-- what was made of a part of a message, or why it is refused
abbrev pub GivesPart : {V : Type 0} → (V → List ℕ) → Writing (List ℕ) → Result V MessageError → Type 0
GivesPart view part (Ok v) = part ≡ Ok (view v)
GivesPart view part (Err e) = part ≡ Err e

-- the buffer with a message after it
abbrev pub with_message : List ℕ → Writing (List ℕ) → Writing (List ℕ)
with_message old message = message >>= λ bytes. Ok (old ++ bytes)

-- The message is appended; or the buffer is as before, and the error is out of memory or the message's own.
abbrev pub Sends : Writing (List ℕ) → List ℕ → List ℕ → Result ⊤ MessageError → Type 0
Sends message old new (Ok _) = with_message old message ≡ Ok new
Sends message old new (Err e) = (new ≡ old) × ((e ≡ Memory) ⊎ (message ≡ Err e))
