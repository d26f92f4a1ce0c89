use Rattle.std.proofs.Common.{◌≡◌, ◌∙◌, ◌<◌, List, [], ◌∷◌, ◌++◌, length, map, ap, sym, append_assoc, append-nil, arith}
use Rattle.std.proofs.lemmas.Bool.{false≢true}
use Rattle.std.proofs.lemmas.List.{map_push}
use Rattle.std.proofs.lemmas.Result.{MatchResult-from_err}
use Rattle.pgv_text.specs.Values.{part_bytes}
use Rattle.pgv_text.specs.PartsView.{nest}
use Rattle.pgv_text.proofs.parts.Parts.list.Goals as goal

-- those that were taken and those that are left are all, also after one more
one_more : {X Y : Type 0} (f : X → Y) (items pushed : List X) (x : X) (was now all : List Y) → pushed ≡ items ++ x ∷ [] → was ≡ f x ∷ now → map f items ++ was ≡ all → map f pushed ++ now ≡ all
one_more f items pushed x was now all push first whole =
    ap (λ xs. map f xs ++ now) push ∙ (ap (λ ys. ys ++ now) (map_push f items x) ∙ (append_assoc (map f items) (f x ∷ []) now ∙ (ap (λ ys. map f items ++ ys) (sym first) ∙ whole)))

shorter : {Y : Type 0} (y : Y) (was now : List Y) → was ≡ y ∷ now → length now < length was
shorter y was now first = let more = ap length first in omega (arith, more)

-- where some are left, they are not none
none_after : {Y : Type 0} (taken left : List Y) → taken ++ left ≡ [] → left ≡ []
none_after [] left none = none
none_after (y ∷ ys) left none = absurd (let more = ap length none in omega (arith, more))

not_none : {Y : Type 0} (y : Y) (left now : List Y) → left ≡ y ∷ now → left ≡ [] → ⊥
not_none y left now first none = let more = ap length (sym first ∙ none) in omega (arith, more)

pub returns-in_err-list : goal.returns-in_err-list
returns-in_err-list c =
    MatchResult-from_err c.from_residual.result _ _ c.from_residual.ensures.0 (λ e none. false≢true (c.in_err-list.ensures.succeeds (c.len.ensures ∙ ap length none)))

pub returns-in_err-part : goal.returns-in_err-part
returns-in_err-part c =
    MatchResult-from_err c.from_residual-in_err-part.result _ _ c.from_residual-in_err-part.ensures.0
    (λ e none. c.in_err-part.ensures.taken.0 (none_after (map part_bytes c.loop-list.list.items) (nest c.loop-list.parts).values (c.loop-list.invariant ∙ none)))

pub loop-list-smaller : goal.loop-list-smaller
loop-list-smaller c =
    let taken = rw c.in-Some.is at c.in_ok-part.ensures.taken in
    shorter _ _ _ taken.0

pub loop-list-preserved : goal.loop-list-preserved
loop-list-preserved c =
    let taken = rw c.in-Some.is at c.in_ok-part.ensures.taken in
    one_more part_bytes c.loop-list.list.items c.push.new.self.items c.in-Some.part _ _ _ c.in_ok-push.ensures.items taken.0 c.loop-list.invariant

pub returns-in_err-push : goal.returns-in_err-push
returns-in_err-push c =
    let taken = rw c.in-Some.is at c.in_ok-part.ensures.taken in
    MatchResult-from_err c.from_residual-in_err-push.result _ _ c.from_residual-in_err-push.ensures.0
    (λ e none. not_none _ _ _ taken.0 (none_after (map part_bytes c.loop-list.list.items) (nest c.loop-list.parts).values (c.loop-list.invariant ∙ none)))

pub returns : goal.returns
returns c =
    let ended = rw c.in_default.is at c.in_ok-part.ensures.taken in
    sym (append-nil (map part_bytes c.loop-list.list.items)) ∙ (ap (λ ys. map part_bytes c.loop-list.list.items ++ ys) (sym ended.0) ∙ c.loop-list.invariant)
