-- Parts that are read one after the other.
use Rattle.std.proofs.Common.{◌≡◌, ℕ, Bool, true, List, [], ◌∷◌, ◌++◌, drop, Option, Some, None, is_some, Result, Ok, Err, refl, sym, ap, ◌∙◌, inl, inr}
use Rattle.std.specs.Option.{option_map}
use Rattle.std.specs.Prelude.{⊤}
use Rattle.std.proofs.lemmas.Bool.{false≢true}
use Rattle.std.proofs.lemmas.List.{append-nil}
use Rattle.pgv_types.specs.Ty.{Ty, by_oid}
use Rattle.pgv_text.specs.Copies.{first_copied}
use Rattle.pgv_text.specs.PartFound.{part_value}
use Rattle.pgv_text.specs.Values.{array_values}
use Rattle.pgv_text.specs.declared.parts.Part.{Part as Found}
use Rattle.pgv_value.specs.FrameBinary.{Part}
use Rattle.pgv_value.specs.ValueView.{given}
use Rattle.pgv_value.specs.Outcome.{Outcome, Fails, done, allocates, or_fail, ◌>>=◌, ◌>>◌}
use Rattle.pgv_value.specs.Reading.{has_items}
use Rattle.pgv_value.specs.ValueView.{Given}
use Rattle.pgv_value.specs.declared.error.CodecError.{CodecError}
use Rattle.pgv_value.specs.declared.error.CodecError.TheVariants.{Syntax}
use Rattle.pgv_value.specs.declared.value.PgValueFormat.TheVariants.{Text}
use Rattle.pgv_codec.proofs.StepOutcomes.{fails_here, fails_then}
use Rattle.pgv_codec.specs.ArrayGrammar.{array_in_text, each}
use Rattle.pgv_codec.specs.RecordGrammar.{Left, text_fields}
use Rattle.pgv_codec.specs.RecordGrammar.{next_field}
use Rattle.pgv_codec.proofs.FrameLoop.{regroup}
use Rattle.pgv_codec.specs.AtOnce.{with_front}

module _ {M : Type 0} (parse : Given → Outcome M) (t : Ty) where
  abbrev Answer : Type 0
  Answer = Result (List M) (Option CodecError)

  -- the parts that are still read, where the text is none before its end
  abbrev pub read_ahead : Option (List Part) → Answer
  read_ahead None = Err (Some Syntax)
  read_ahead (Some parts) = (each parse t parts).answer

  by_values : (o : Option (List Part)) (b : Bool) → (or_fail o Syntax >>= λ parts. allocates b >> each parse t parts).answer ≡ read_ahead o
  by_values None b = refl
  by_values (Some parts) b = refl

  pub in_text : (text : List ℕ) → (array_in_text parse t text).answer ≡ read_ahead (array_values text)
  unfolding array_in_text
  in_text text = by_values (array_values text) (has_items (array_values text))

  -- a text with elements asks for memory
  asks : (o : Option (List Part)) → has_items o ≡ true → (or_fail o Syntax >>= λ parts. allocates (has_items o) >> each parse t parts).may_alloc ≡ true
  asks None some = absurd (false≢true some)
  asks (Some []) some = absurd (false≢true some)
  asks (Some (part ∷ parts)) some = refl

  pub alloc_in_text : (text : List ℕ) → has_items (array_values text) ≡ true → (array_in_text parse t text).may_alloc ≡ true
  unfolding array_in_text
  alloc_in_text text some = asks (array_values text) some

  -- one step
  each_read : (ms : List M) (part : Part) (parts : List Part) (m : M) → (parse (given t Text part)).answer ≡ Ok m → with_front ms (each parse t (part ∷ parts)).answer ≡ with_front (ms ++ m ∷ []) (each parse t parts).answer
  unfolding each
  each_read ms part parts m r = rw r (regroup ms m (each parse t parts).answer (each parse t parts).may_alloc)

  each_unread : (part : Part) (parts : List Part) (why : Option CodecError) → (parse (given t Text part)).answer ≡ Err why → (each parse t (part ∷ parts)).answer ≡ Err why
  unfolding each
  each_unread part parts why r = rw r refl

  none_left : (each parse t []).answer ≡ Ok []
  unfolding each
  none_left = refl

  -- a loop over parts that are read as they come: it goes on, it is done, a part isn't read
  pub part_read : (ms : List M) (here rest_after : Option (List Part)) (part : Part) (m : M) (total : Answer) → here ≡ option_map (λ parts. part ∷ parts) rest_after →
      (parse (given t Text part)).answer ≡ Ok m → with_front ms (read_ahead here) ≡ total → with_front (ms ++ m ∷ []) (read_ahead rest_after) ≡ total
  part_read ms here None part m total e r so_far = sym (ap (λ o. with_front ms (read_ahead o)) e) ∙ so_far
  part_read ms here (Some parts) part m total e r so_far = sym (each_read ms part parts m r) ∙ (sym (ap (λ o. with_front ms (read_ahead o)) e) ∙ so_far)

  part_why : (ms : List M) (here rest_after : Option (List Part)) (part : Part) (why : Option CodecError) (total : Answer) → here ≡ option_map (λ parts. part ∷ parts) rest_after → is_some here ≡ true →
      (parse (given t Text part)).answer ≡ Err why → with_front ms (read_ahead here) ≡ total → total ≡ Err why
  part_why ms here None part why total e some r so_far = absurd (false≢true (ap is_some (sym e) ∙ some))
  part_why ms here (Some parts) part why total e some r so_far = sym so_far ∙ (ap (λ o. with_front ms (read_ahead o)) e ∙ ap (with_front ms) (each_unread part parts why r))

  pub part_unread : (ms : List M) (here rest_after : Option (List Part)) (part : Part) (e : CodecError) (total : Outcome (List M)) → here ≡ option_map (λ parts. part ∷ parts) rest_after → is_some here ≡ true →
      Fails e (parse (given t Text part)) → with_front ms (read_ahead here) ≡ total.answer → total.may_alloc ≡ true → Fails e total
  part_unread ms here rest_after part e total split some (inl h) so_far free = inl (part_why ms here rest_after part (Some e) total.answer split some h so_far)
  part_unread ms here rest_after part e total split some (inr (inl h)) so_far free = inr (inl (part_why ms here rest_after part None total.answer split some h.0 so_far, h.1))
  part_unread ms here rest_after part e total split some (inr (inr h)) so_far free = inr (inr (h.0, free))

  nothing_before : (r : Answer) → with_front [] r ≡ r
  nothing_before (Ok ns) = refl
  nothing_before (Err why) = refl

  pub begins : (here : Option (List Part)) (text : List ℕ) → here ≡ array_values text → with_front [] (read_ahead here) ≡ (array_in_text parse t text).answer
  begins here text e = nothing_before (read_ahead here) ∙ (ap read_ahead e ∙ sym (in_text text))

  pub parts_done : (ms : List M) (here : Option (List Part)) (total : Answer) → here ≡ Some [] → with_front ms (read_ahead here) ≡ total → total ≡ Ok ms
  parts_done ms here total e so_far =
      sym so_far ∙ (ap (λ o. with_front ms (read_ahead o)) e ∙ (ap (with_front ms) none_left ∙ ap (λ (xs : List M). let r : Answer = Ok xs in r) (append-nil ms)))

-- elements are there only where the text is an array text
pub some_values : (o : Option (List Part)) → has_items o ≡ true → is_some o ≡ true
some_values None some = some
some_values (Some ps) some = refl

pub still_some : (here rest_after : Option (List Part)) (part : Part) → here ≡ option_map (λ parts. part ∷ parts) rest_after → is_some rest_after ≡ is_some here
still_some here None part e = ap is_some (sym e)
still_some here (Some parts) part e = ap is_some (sym e)

-- the parts that are left begin with the one that was found, in a text that may have been written
pub found_first : (here rest : Option (List Part)) (found : Found) (written text : List ℕ) (part : Part) → here ≡ option_map (λ parts. part_value found written ∷ parts) rest →
    text ≡ written → part ≡ part_value found text → here ≡ option_map (λ parts. part ∷ parts) rest
found_first here rest found written text part e same is = e ∙ ap (λ (v : Part). option_map (λ parts. v ∷ parts) rest) (sym (is ∙ ap (part_value found) same))

-- a field in text that isn't read
pub text_unread : {M : Type 0} (accepts : Ty → Bool) (parse : Given → Outcome M) (n : ℕ) (copied : List Bool) (part : Part) (parts : List Part) (e : CodecError) →
    Fails e (parse (given (by_oid 0) Text part)) → Fails e (next_field accepts parse (text_fields n copied (part ∷ parts)))
text_unread {M} accepts parse n copied part parts e h =
    let last = λ (m : M). let o : Outcome (M × Left) = done (m, text_fields n (drop 1 copied) parts) in o in
    fails_then (allocates (first_copied copied)) (λ (x : ⊤). parse (given (by_oid 0) Text part) >>= last) tt e refl (fails_here (parse (given (by_oid 0) Text part)) last e h)
