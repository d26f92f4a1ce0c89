-- A statement in a session (PostgreSQL: "Message Flow", "Extended Query"): it is prepared and described, its parameters
-- are bound, it is executed, and the rows that come are shown.
use Rattle.std.specs.Prelude.{◌≡◌, ℕ, ◌==◌, List, [], ◌∷◌, ◌++◌, map, slice_set, if◌then◌else◌, Option, Ok}
use Rattle.pgv_characters.specs.Characters.{upper_s}
use Rattle.pgv_row.specs.ColumnView.{Column}
use Rattle.pgv_row.specs.Description.{IsDescription, KnownTypes, in_format}
use Rattle.pgv_value.specs.declared.value.PgValueFormat.{PgValueFormat}
use Rattle.pgv_value.specs.declared.value.PgValueFormat.TheVariants.{Text, Binary}
use Rattle.pgv_wire.specs.Arguments.{Argument}
use Rattle.pgv_message.specs.Messages.{bare_message, bind, describe, execute, parse_message}
use Rattle.pgv_message.specs.MessageWriting.{Writing, ◌>>=◌}
use Rattle.pgv_message.specs.declared.describe.Prepared.TheVariants.{Statement}
use Rattle.pgquery.specs.Incoming.{Incoming}
use Rattle.pgquery.specs.RowLines.{ShowsRows}
use Rattle.pgquery.specs.Talks.{Converses, SendsMessages, Talks, UpToReady}
use Rattle.pgquery.specs.declared.connection.Connection.{Connection}
use Rattle.pgquery.specs.declared.options.Shown.{Shown}
use Rattle.pgquery.specs.declared.options.Shown.TheVariants.{Texts, Objects, Frames, Copied}

-- ---- what is sent

-- Parse and Describe of the statement without a name, and Sync
abbrev pub preparing : List ℕ → Writing (List ℕ)
preparing sql = do
  parsed ← parse_message [] sql []
  described ← describe Statement []
  ended ← bare_message upper_s
  Ok ((parsed ++ described) ++ ended)

-- A Bind without names, whose parameters are in this format: its code comes after the tag, the length, two empty names
-- and the number of codes, and that of texts is 0.
abbrev pub with_format : PgValueFormat → List ℕ → List ℕ
with_format Text bound = slice_set bound 10 0
with_format Binary bound = bound

-- Bind of the arguments to the statement without a name, Execute, and Sync
abbrev pub executing : List Argument → PgValueFormat → PgValueFormat → Writing (List ℕ)
executing arguments parameters results = do
  bound ← bind [] [] arguments (results ∷ [])
  executed ← execute [] 0
  ended ← bare_message upper_s
  Ok ((with_format parameters bound ++ executed) ++ ended)

-- ---- what is answered

-- the body of a RowDescription, or else this
abbrev pub described : List ℕ → Incoming → List ℕ
described body m = if m.tag == 84 then m.body else body

-- the body of the last RowDescription among answers, or else this
abbrev pub description_among : List ℕ → List Incoming → List ℕ
description_among body [] = body
description_among body (m ∷ ms) = description_among (described body m) ms

-- the format in which results are asked for
abbrev pub results_of : Shown → PgValueFormat
results_of Texts = Text
results_of Objects = Text
results_of Frames = Binary
results_of Copied = Text

-- ---- between two states of a session

-- A statement was prepared, and this is the body that describes its rows: that of no column where none came.
pub record Prepares {R W : Type 0} (remaining : R → Option (List ℕ)) (contents : W → Option (List ℕ)) (sql : List ℕ) (old new : Connection R W) (body : List ℕ) : Type 0 where
  pub sent : List ℕ
  pub answers : List Incoming
  pub is_sent : preparing sql ≡ Ok sent
  pub ready : UpToReady answers
  pub talks : Talks remaining contents old new sent answers
  pub is_described : description_among (0 ∷ 0 ∷ []) answers ≡ body

-- The same, after the types of the server were looked up where a parameter wants one.
abbrev pub PreparesAtLast : {R W : Type 0} → (R → Option (List ℕ)) → (W → Option (List ℕ)) → List ℕ → Connection R W → Connection R W → List ℕ → Type 0
PreparesAtLast {R} {W} remaining contents sql old new body = (begun : Connection R W) × Converses remaining contents old begun × Prepares remaining contents sql begun new body

-- What a server answered to a statement that is prepared, and the body that describes its rows.
abbrev pub Describes : {R W : Type 0} → (R → Option (List ℕ)) → (W → Option (List ℕ)) → Connection R W → Connection R W → List ℕ → Type 0
Describes remaining contents old new body =
    (answers : List Incoming) × UpToReady answers × Talks remaining contents old new [] answers × (description_among (0 ∷ 0 ∷ []) answers ≡ body)

-- The rows that came up to the message that says that the server is ready are this text.
abbrev pub ShowsAnswers : {R W : Type 0} → (R → Option (List ℕ)) → (W → Option (List ℕ)) → Shown → List Column → Connection R W → Connection R W → List ℕ → Type 0
ShowsAnswers remaining contents shown columns old new text =
    (answers : List Incoming) × UpToReady answers × Talks remaining contents old new [] answers × ShowsRows shown columns answers text

-- A statement was prepared, bound and executed, and this text is the rows that came of it, under the columns that the
-- server described.
pub record Runs {R W : Type 0} (remaining : R → Option (List ℕ)) (contents : W → Option (List ℕ)) (sql : List ℕ) (shown : Shown) (old new : Connection R W) (text : List ℕ) : Type 0 where
  pub prepared : Connection R W
  pub executed : Connection R W
  pub body : List ℕ
  pub known : KnownTypes
  pub columns : List Column
  pub arguments : List Argument
  pub parameters : PgValueFormat
  pub prepares : PreparesAtLast remaining contents sql old prepared body
  pub is_description : IsDescription known body columns
  pub executes : SendsMessages remaining contents (executing arguments parameters (results_of shown)) prepared executed
  pub shows : ShowsAnswers remaining contents shown (map (in_format (results_of shown)) columns) executed new text
