-- The messages of a server, one after another, in the bytes that a session has not read yet.
use Rattle.std.specs.Prelude.{◌≡◌, ℕ, List, [], ◌∷◌, drop, Option, Some, None, ⊤}
use Rattle.std.specs.Io.KnownBytes.{prepend_known}
use Rattle.pgv_message.specs.Received.{message_at_front, found}
use Rattle.pgv_message.specs.declared.received.PgMessage.{PgMessage}
use Rattle.pgquery.specs.declared.inbox.Inbox.{Inbox}

pub record Incoming : Type 0 where
  pub tag : ℕ
  pub body : List ℕ

-- These messages are in front of the bytes, one after another; after them comes the rest.
abbrev pub AreInFront : List Incoming → List ℕ → List ℕ → Type 0
AreInFront [] bytes rest = rest ≡ bytes
AreInFront (m ∷ ms) bytes rest = (after : List ℕ) × (message_at_front bytes ≡ found m.tag m.body after) × AreInFront ms after rest

-- These messages came: what was unread began with them, and what comes after them is unread now. Of bytes that are not
-- known nothing is said.
abbrev pub Come : List Incoming → Option (List ℕ) → Option (List ℕ) → Type 0
Come ms None new = ⊤
Come ms (Some xs) None = ⊥
Come ms (Some xs) (Some ys) = AreInFront ms xs ys

-- what was not read yet from this place on of what has come: this, and what the reader has left
abbrev pub unread_from : {R : Type 0} → (R → Option (List ℕ)) → ℕ → Inbox R → Option (List ℕ)
unread_from remaining place inbox = prepend_known (drop place inbox.came.items) (remaining inbox.reader)

-- what was not read yet
abbrev pub unread : {R : Type 0} → (R → Option (List ℕ)) → Inbox R → Option (List ℕ)
unread remaining inbox = unread_from remaining inbox.end inbox

-- The last message is this one.
abbrev pub IsLast : {R : Type 0} → ℕ → List ℕ → Inbox R → Type 0
IsLast tag body inbox = message_at_front (drop inbox.start inbox.came.items) ≡ found tag body (drop inbox.end inbox.came.items)

-- One message came, and it is the last one.
abbrev pub Receives : {R : Type 0} → (R → Option (List ℕ)) → Inbox R → Inbox R → ℕ → Type 0
Receives remaining old new tag =
    (body : List ℕ) × IsLast tag body new × Come (record { tag = tag; body = body } ∷ []) (unread remaining old) (unread remaining new)

-- What is lent is the last message.
abbrev pub Lends : {R : Type 0} → Inbox R → PgMessage → Type 0
Lends inbox m = (tag : ℕ) (body : List ℕ) → IsLast tag body inbox → (m.tag ≡ tag) × (m.body.now ≡ body)
