-- Bodies of messages that a server sends (PostgreSQL: "Message Formats"), each read exactly: bytes that end too early
-- are C15, a text that isn't UTF-8 is C14, bytes after the last field are C17, and a code that isn't one of its field's
-- is C30.
use Rattle.std.specs.Prelude.{ℕ, ◌==◌, List, [], ◌∷◌, length, Ok, Err, if◌then◌else◌}
use Rattle.pgv_characters.specs.Characters.{upper_e, upper_i, upper_t}
use Rattle.pgv_value.specs.declared.error.CodecError.TheVariants.{Short, WrongLength, OutOfRange}
use Rattle.pgv_value.specs.Fronts.{u32_front, name_front}
use Rattle.pgv_value.specs.Parsed.{Parsed, ◌>>=◌}
use Rattle.pgv_message.specs.declared.notification.PgNotification.{PgNotification}
use Rattle.pgv_message.specs.declared.ready_for_query.PgTransactionStatus.{PgTransactionStatus}
use Rattle.pgv_message.specs.declared.notification.PgNotification.{PgNotification}
use Rattle.pgv_message.specs.declared.ready_for_query.PgTransactionStatus.TheVariants.{Idle, Transaction, Failed}

-- what was read, where nothing of the body is left
abbrev pub whole_body : {A : Type 0} → List ℕ → A → List ℕ → Parsed A
whole_body bytes x rest = if length rest == 0 then Ok x else Err (WrongLength (length bytes))

-- CommandComplete: a text
unfoldable pub command_complete : List ℕ → Parsed (List ℕ)
command_complete bytes = do
  text ← name_front bytes
  whole_body bytes text.0 text.1

-- ReadyForQuery: `I` no transaction, `T` in a transaction, `E` in one that failed
abbrev pub status_of : ℕ → Parsed PgTransactionStatus
status_of code = if code == upper_i then Ok Idle else if code == upper_t then Ok Transaction else if code == upper_e then Ok Failed else Err OutOfRange

unfoldable pub ready_for_query : List ℕ → Parsed PgTransactionStatus
ready_for_query [] = Err Short
ready_for_query (code ∷ rest) = status_of code >>= λ status. whole_body (code ∷ rest) status rest

-- ParameterStatus: a name and a value
unfoldable pub parameter_status : List ℕ → Parsed (List ℕ × List ℕ)
parameter_status bytes = do
  name ← name_front bytes
  value ← name_front name.1
  whole_body bytes (name.0, value.0) value.1

-- BackendKeyData: the process and the secret
unfoldable pub backend_key_data : List ℕ → Parsed (ℕ × ℕ)
backend_key_data bytes = do
  process ← u32_front bytes
  secret ← u32_front process.1
  whole_body bytes (process.0, secret.0) secret.1

abbrev pub notification_view : PgNotification → ℕ × (List ℕ × List ℕ)
notification_view n = (n.process, (n.channel.now, n.payload.now))

-- NotificationResponse: the process, the channel and the payload
unfoldable pub notification : List ℕ → Parsed (ℕ × (List ℕ × List ℕ))
notification bytes = do
  process ← u32_front bytes
  channel ← name_front process.1
  payload ← name_front channel.1
  whole_body bytes (process.0, (channel.0, payload.0)) payload.1

-- Authentication: a code, and what the code has; nothing after 0, which is Ok
unfoldable pub authentication : List ℕ → Parsed (ℕ × List ℕ)
authentication bytes = do
  code ← u32_front bytes
  if code.0 == 0 then whole_body bytes code code.1 else Ok code
