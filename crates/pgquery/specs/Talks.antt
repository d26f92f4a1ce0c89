-- What is sent in a session, and what a server answers.
use Rattle.std.specs.Prelude.{◌≡◌, ℕ, Bool, false, ◌||◌, ◌==◌, List, [], ◌∷◌, map, if◌then◌else◌, Option, Ok, codes}
use Rattle.std.specs.Io.KnownBytes.{Appends}
use Rattle.pgv_characters.specs.Characters.{upper_a, upper_k, upper_n, upper_s, upper_z}
use Rattle.pgv_message.specs.Startup.{startup}
use Rattle.pgv_message.specs.MessageWriting.{Writing}
use Rattle.pgv_message.specs.declared.startup.PgSetting.{PgSetting}
use Rattle.pgquery.specs.Incoming.{Come, Incoming, IsLast, unread}
use Rattle.pgquery.specs.declared.connection.Connection.{Connection}

-- a notice, a setting, the key that cancels, or a notification: no answer
abbrev pub is_passed_over : ℕ → Bool
is_passed_over tag = tag == upper_n || (tag == upper_s || (tag == upper_k || tag == upper_a))

abbrev pub answers_among : List Incoming → List Incoming
answers_among [] = []
answers_among (m ∷ ms) = if is_passed_over m.tag then answers_among ms else m ∷ answers_among ms

-- Between two states of a session these bytes were sent, and the messages that came have these answers among them.
abbrev pub Talks : {R W : Type 0} → (R → Option (List ℕ)) → (W → Option (List ℕ)) → Connection R W → Connection R W → List ℕ → List Incoming → Type 0
Talks remaining contents old new sent answers =
    (came : List Incoming) × (answers_among came ≡ answers) × Appends (contents old.writer) (contents new.writer) sent × Come came (unread remaining old.inbox) (unread remaining new.inbox)

-- A message was sent, or several.
abbrev pub SendsMessages : {R W : Type 0} → (R → Option (List ℕ)) → (W → Option (List ℕ)) → Writing (List ℕ) → Connection R W → Connection R W → Type 0
SendsMessages remaining contents messages old new = (sent : List ℕ) × (messages ≡ Ok sent) × Talks remaining contents old new sent []

-- Something was answered.
abbrev pub Hears : {R W : Type 0} → (R → Option (List ℕ)) → (W → Option (List ℕ)) → Connection R W → Connection R W → Type 0
Hears remaining contents old new = (answers : List Incoming) × Talks remaining contents old new [] answers

-- Something was sent and answered.
abbrev pub Converses : {R W : Type 0} → (R → Option (List ℕ)) → (W → Option (List ℕ)) → Connection R W → Connection R W → Type 0
Converses remaining contents old new = (sent : List ℕ) × (answers : List Incoming) × Talks remaining contents old new sent answers

-- One answer came, of this tag, and it is the last message.
abbrev pub Answers : {R W : Type 0} → (R → Option (List ℕ)) → (W → Option (List ℕ)) → Connection R W → Connection R W → ℕ → Type 0
Answers remaining contents old new tag = (body : List ℕ) × IsLast tag body new.inbox × Talks remaining contents old new [] (record { tag = tag; body = body } ∷ [])

-- The last of these messages, and it alone, says that the server is ready.
abbrev pub UpToReady : List Incoming → Type 0
UpToReady [] = ⊥
UpToReady (m ∷ []) = m.tag ≡ upper_z
UpToReady (m ∷ n ∷ ms) = ((m.tag == upper_z) ≡ false) × UpToReady (n ∷ ms)

-- ---- how a session starts

abbrev pub shown_setting : PgSetting → List ℕ × List ℕ
shown_setting s = (s.name.now, s.value.now)

-- the settings of a user's session with a database
abbrev pub settings_of : List ℕ → List ℕ → List (List ℕ × List ℕ)
settings_of user database = (codes "user", user) ∷ (codes "database", database) ∷ (codes "client_encoding", codes "UTF8") ∷ (codes "DateStyle", codes "ISO") ∷ []

-- The message that starts a session was sent, with these settings.
abbrev pub Starts : {R W : Type 0} → (R → Option (List ℕ)) → (W → Option (List ℕ)) → List ℕ → List ℕ → Connection R W → Connection R W → Type 0
Starts remaining contents user database old new =
    (settings : List PgSetting) × (sent : List ℕ) × (answers : List Incoming) ×
    (map shown_setting settings ≡ settings_of user database) × (startup settings ≡ Ok sent) × Talks remaining contents old new sent answers
