use Rattle.std.proofs.Common.{◌≡◌, ◌∙◌, Option, Result, Ok, Err, Some, true, ap, sym, length}
use Rattle.std.specs.Str.{chars}
use Rattle.std.specs.Option.{is_some, option_map}
use Rattle.std.specs.Result.{IfOk, MatchResult}
use Rattle.pgv_text.specs.declared.nest.RangeText.{RangeText}
use Rattle.pgv_text.specs.ContentText.{RangeContent, empty, parts, range_content}
use Rattle.pgv_text.specs.NestPieces.{Nest}
use Rattle.pgv_text.specs.PartsView.{empty_or, nest}
use Rattle.pgv_text.specs.RangeTextView.{range_of}
use Rattle.pgv_text.proofs.Contents.{two_bounds_of}
use Rattle.pgv_text.proofs.nest.range_parts.Goals as goal

not_empty : (n : Nest) → ◌≡◌ {A = Option RangeContent} (Some (parts n)) (Some empty) → ⊥
not_empty n e = cc

-- of two bounds
of_bounds : {E : Type 0} (r : Result (Option RangeText) E) (content : Option RangeContent) (n : Nest) → content ≡ Some (parts n) → length n.values ≡ 2 →
    IfOk r (λ found. length n.values ≡ 2 → option_map range_of found ≡ Some (parts n)) →
    MatchResult r (λ found. option_map range_of found ≡ content) (λ e. (is_some content ≡ true) × (content ≡ Some empty → ⊥))
of_bounds (Ok found) content n whole two h = h two ∙ sym whole
of_bounds (Err e) content n whole two h = (ap is_some whole, λ none. not_empty n (sym whole ∙ none))

pub returns-in_default : goal.returns-in_default
returns-in_default c = sym c.in_default.ensures

pub returns-then-is_empty_range : goal.returns-then-is_empty_range
returns-then-is_empty_range c =
    let p = c.in-Some.parts in
    sym (c.in-Some.ensures.denoted ∙ ap (λ b. Some (empty_or b (nest p))) (sym c.is_empty_range.ensures ∙ c.if-is_empty_range.true))

pub returns : goal.returns
returns c =
    let p = c.in-Some.parts in
    let bounded = sym c.is_empty_range.ensures ∙ c.if-is_empty_range.false in
    let whole : range_content (chars c.args.text.now) ≡ Some (parts (nest p)) = c.in-Some.ensures.denoted ∙ ap (λ b. Some (empty_or b (nest p))) bounded in
    of_bounds c.bounds_of.result (range_content (chars c.args.text.now)) (nest p) whole (two_bounds_of (chars c.args.text.now) p c.in-Some.ensures.denoted bounded) c.bounds_of.ensures.two
