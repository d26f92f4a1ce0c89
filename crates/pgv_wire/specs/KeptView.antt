-- How arguments are kept: their frames one after another, their types, and how many slots each has, but for zeros at
-- the end. Each is the frame of an image, and shows what some types and OIDs write, or is not filled yet.
use Rattle.std.specs.Prelude.{◌≡◌, ℕ, List}
use Rattle.pgv_types.specs.Ty.{Ty}
use Rattle.pgv_buf.specs.Tokens.{Cell}
use Rattle.pgv_wire.specs.Arguments.{Argument, all_cells, types_in, counts_in}
use Rattle.pgv_wire.specs.Counts.{AreCounts}
use Rattle.pgv_wire.specs.History.{LeftBySome}
use Rattle.pgv_wire.specs.ArgumentParts.{OfImages}
use Rattle.pgv_wire.specs.Split.{split}
use Rattle.pgv_wire.specs.declared.arguments.PgArguments.TheInside.{Inside}

unfoldable pub arguments_of : List Ty → List Cell → List Argument
arguments_of hs ts = split hs ts

pub record Stands (args : List Argument) (hs : List Ty) (ns : List ℕ) (ts : List Cell) : Type 0 where
  pub types_are : hs ≡ types_in args
  pub counts_are : AreCounts (counts_in args) ns
  pub cells_are : ts ≡ all_cells args
  pub images_are : OfImages args
  pub left_are : LeftBySome args

abbrev pub arguments_view : Inside → List Argument
arguments_view a = arguments_of a.types.items a.buffer

abbrev pub IsKept : Inside → Type 0
IsKept a = Stands (arguments_of a.types.items a.buffer) a.types.items a.counts.items a.buffer
