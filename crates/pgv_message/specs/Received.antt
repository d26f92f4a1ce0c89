-- The message in front of what a server has sent (PostgreSQL: "Message Formats"): a byte that names it, its length in
-- four bytes, which counts these four, and its body. A length below 4 or above 2147483647 is no message's. A message is
-- found, whatever follows it (`MessageIsFound`), and what is found is a message (`FoundIsMessage`). Of a message that
-- is cut off anywhere nothing is found yet (`CutIsNotFound`).
use Rattle.std.specs.Prelude.{◌≡◌, ℕ, ◌-◌, ◌<◌, ◌≤◌, nat_lt, List, [], ◌∷◌, ◌++◌, length, take, drop, Option, Some, None, option_map, Result, Ok, Err, if◌then◌else◌}
use Rattle.pgv_value.specs.FrameBinary.{max_length}
use Rattle.pgv_value.specs.FrameLaws.{AreBytes}
use Rattle.pgv_value.specs.ReadingSteps.{number}
use Rattle.pgv_message.specs.declared.error.MessageError.{MessageError}
use Rattle.pgv_message.specs.declared.error.MessageError.TheVariants.{BadLength}
use Rattle.pgv_message.specs.declared.received.PgMessage.{PgMessage}
use Rattle.pgv_message.specs.MessageWriting.{measured, max_body}

pub record Message : Type 0 where
  pub tag : ℕ
  pub body : List ℕ
  pub rest : List ℕ

abbrev pub message_view : PgMessage → Message
message_view m = record { tag = m.tag; body = m.body.now; rest = m.rest.now }

-- the message whose body is this long, where the body has come
abbrev pub with_body : ℕ → ℕ → List ℕ → Option Message
with_body tag size bytes = if nat_lt (length bytes) size then None else Some (record { tag = tag; body = take size bytes; rest = drop size bytes })

-- the message whose length is in front, where this has come
abbrev pub with_length : ℕ → Option (ℕ × List ℕ) → Result (Option Message) MessageError
with_length tag None = Ok None
with_length tag (Some size) =
    if nat_lt size.0 4 then Err (BadLength size.0) else
    if nat_lt max_length size.0 then Err (BadLength size.0) else
    Ok (with_body tag (size.0 - 4) size.1)

unfoldable pub message_at_front : List ℕ → Result (Option Message) MessageError
message_at_front [] = Ok None
message_at_front (tag ∷ bytes) = with_length tag (number bytes)

-- What was returned is the message in front, where all of it has come; or the error of its length.
abbrev pub Finds : List ℕ → Result (Option PgMessage) MessageError → Type 0
Finds bytes (Ok found) = message_at_front bytes ≡ Ok (option_map message_view found)
Finds bytes (Err e) = message_at_front bytes ≡ Err e

-- ---- laws

-- the bytes of a message
abbrev pub message : ℕ → List ℕ → List ℕ
message tag body = tag ∷ measured body

abbrev pub found : ℕ → List ℕ → List ℕ → Result (Option Message) MessageError
found tag body rest = Ok (Some (record { tag = tag; body = body; rest = rest }))

-- A message in front is found, whatever follows it.
unfoldable pub MessageIsFound : Type 0
MessageIsFound = (tag : ℕ) (body rest : List ℕ) → length body ≤ max_body → message_at_front (message tag body ++ rest) ≡ found tag body rest

-- What is found in front is a message, and the bytes after it.
unfoldable pub FoundIsMessage : Type 0
FoundIsMessage = (bytes : List ℕ) (tag : ℕ) (body rest : List ℕ) → AreBytes bytes → message_at_front bytes ≡ found tag body rest → (length body ≤ max_body) × (bytes ≡ message tag body ++ rest)

-- Of a message that is cut off anywhere nothing is found yet.
unfoldable pub CutIsNotFound : Type 0
CutIsNotFound = (tag : ℕ) (body : List ℕ) (n : ℕ) → length body ≤ max_body → n < length (message tag body) → message_at_front (take n (message tag body)) ≡ Ok None
