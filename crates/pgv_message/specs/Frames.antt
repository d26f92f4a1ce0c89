-- The frames of arguments in a Bind, as whoever receives it reads them: each parameter is the part of the argument at
-- its place.
use Rattle.std.specs.Prelude.{◌≡◌, ℕ, List, [], ◌∷◌, length, flat_map, Ok}
use Rattle.std.specs.Int.{w16, to_be_bytes}
use Rattle.std.specs.List.{AllByRecursion}
use Rattle.pgv_characters.specs.Characters.{upper_b}
use Rattle.pgv_value.specs.FrameBinary.{Part, field_bytes, FitsLength}
use Rattle.pgv_value.specs.declared.value.PgValueFormat.{PgValueFormat}
use Rattle.pgv_codec.specs.Encoding.{Image}
use Rattle.pgv_wire.specs.Arguments.{Argument, framed}
use Rattle.pgv_wire.specs.ArgumentParts.{AreImages, parts_in}
use Rattle.pgv_message.specs.Messages.{bind}
use Rattle.pgv_message.specs.Pieces.{format_bytes}
use Rattle.pgv_message.specs.Received.{message}
use Rattle.pgv_copy.specs.CopyPieces.{joined}
use Rattle.pgv_message.specs.MessageWriting.{text}

-- Bind with these parts for its parameters, all in binary
abbrev pub bind_of : List ℕ → List ℕ → List Part → List PgValueFormat → List ℕ
bind_of portal statement parts results =
    message upper_b (joined (
    text portal ∷ text statement ∷ to_be_bytes w16 1 ∷ to_be_bytes w16 1 ∷ to_be_bytes w16 (length parts) ∷ flat_map field_bytes parts ∷ to_be_bytes w16 (length results) ∷ flat_map format_bytes results ∷ []
    ))

-- A Bind whose parameters are the arguments: for each, in order, the frame of its part.
pub record BindsArguments (sent portal statement : List ℕ) (arguments : List Argument) (results : List PgValueFormat) : Type 0 where
  pub images : List Image
  pub of_images : AreImages images (framed arguments)
  pub many : length (parts_in images arguments) ≡ length arguments
  pub each : AllByRecursion FitsLength (parts_in images arguments)
  pub sent_is : sent ≡ bind_of portal statement (parts_in images arguments) results

-- Whatever Bind is sent of these arguments has them as its parameters.
unfoldable pub ParametersAreArguments : List Argument → Type 0
ParametersAreArguments arguments = (portal statement sent : List ℕ) (results : List PgValueFormat) → bind portal statement arguments results ≡ Ok sent → BindsArguments sent portal statement arguments results
