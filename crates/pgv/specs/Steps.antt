-- The steps of a grammar that is written with `do`: what is read one after the other, into an `Outcome`. `done m` reads
-- m, `fails e` is refused with e, and `unstated` with an error that isn't said, but for memory. `in_place parsed` is a
-- step without memory; `allocates b` asks for memory if b holds, `fails_if b e` refuses with e then, and
-- `or_fail found e` where nothing is found. The first step that fails says why, and memory may have been asked for by a
-- step before it.
pub use Rattle.pgv_value.specs.Outcome.{done, fails, unstated, in_place, allocates, fails_if, or_fail, ◌>>=◌, ◌>>◌}
