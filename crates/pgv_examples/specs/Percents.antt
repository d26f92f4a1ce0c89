-- Shares in percent: numbers of int4 from 0 to 100.
use Rattle.std.specs.Prelude.{◌≡◌, Bool, true, false, not, ◌&&◌, ℤ, pos, int_le, Some, Ok, Err, if◌then◌else◌, refl}
use Rattle.std.specs.Int.{w32}
use Rattle.pgv.specs.Words.{Caller, Given, Image, Outcome, Parsed, ◌>>=◌, PlainRules, ReadsBack, always, builtin, ok_of, plainly, signed_image, parse_int, reading_of, softly, without_memory, writes}
use Rattle.pgv.specs.Lemmas.{int4_back, parsed_as}
use Rattle.pgv.specs.Steps.{fails_if, ◌>>◌}
use Rattle.pgv_examples.specs.declared.percent.Percent.{Percent}

abbrev pub is_percent : ℤ → Bool
is_percent n = int_le (pos 0) n && int_le n (pos 100)

-- another is refused with C38(9) before memory is asked for
abbrev pub percent_image : ℤ → Outcome Image
percent_image n = do
  fails_if (not (is_percent n)) (Caller 9)
  writes (signed_image w32 n)

-- an int4 that is one; another is refused with C38(9)
abbrev pub parse_percent : Given → Parsed ℤ
parse_percent v = parse_int w32 v >>= λ n. if is_percent n then Ok n else Err (Caller 9)

percent_there : (b : Bool) (o : Outcome Image) (i : Image) → ok_of (fails_if (not b) (Caller 9) >> o).answer ≡ Some i → (b ≡ true) × (ok_of o.answer ≡ Some i)
percent_there true o i e = (refl, e)
percent_there false o i e = absurd cc

pub percent_back : ReadsBack {A = Percent} (λ p. plainly (percent_image p.number)) (reading_of (without_memory parse_percent)) (λ p. p.number) always
percent_back v i t p oids e whole small fit =
    let g = percent_there (is_percent v.number) (writes (signed_image w32 v.number)) i e in
    rw (parsed_as _ _ (int4_back v.number i t p oids g.1 whole small fit), g.0) refl

abbrev pub percent_rules : PlainRules Percent
percent_rules = record {
  info = builtin 23;
  array_info = builtin 1007;
  accepts = λ t. softly t (builtin 23);
  View = ℤ;
  view = λ percent. percent.number;
  image = percent_image;
  parse = without_memory parse_percent;
  null = λ _ _. refl;
  back = percent_back;
}
