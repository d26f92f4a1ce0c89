-- The laws of lines and of inputs.
use Rattle.std.specs.Prelude.{◌≡◌, ◌↔◌, ℕ, List, Option}
use Rattle.pgv_session.specs.Lines.{request}
use Rattle.pgv_session.specs.Session.{lines_of, AreLines}
use Rattle.pgv_session.specs.Spelled.{Request, Asks}

-- The computed request, or none, is what the line asks for, and the other way round.
unfoldable pub RequestIsItsSpelling : Type 0
RequestIsItsSpelling = (line : List ℕ) (asked : Option Request) → (request line ≡ asked) ↔ Asks line asked

-- A line asks for at most one request.
unfoldable pub OneRequest : Type 0
OneRequest = (line : List ℕ) (asked other : Option Request) → Asks line asked → Asks line other → asked ≡ other

-- The computed lines of an input are those that it is put together from.
unfoldable pub InputIsItsLines : Type 0
InputIsItsLines = (input : List ℕ) (lines : List (List ℕ)) → (lines_of input ≡ lines) ↔ AreLines input lines
