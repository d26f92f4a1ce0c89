-- Frames that are read one after another are the bytes of their parts, and so the parameters of a Bind.
use Rattle.std.proofs.Common.{◌≡◌, ℕ, ◌<◌, ◌≤◌, Bool, true, false, nat_lt, List, [], ◌∷◌, ◌++◌, length, get_or, Ok, Err, refl, sym, ap, ◌∙◌, subst, append_assoc, append-nil}
use Rattle.std.specs.Prelude.{flat_map, if◌then◌else◌}
use Rattle.std.specs.List.{AllByRecursion}
use Rattle.std.specs.Int.{w16, to_be_bytes}
use Rattle.std.proofs.lemmas.Bool.{ltb-false}
use Rattle.pgv_value.specs.FrameBinary.{Part, field_bytes, FitsLength}
use Rattle.pgv_value.specs.FrameLaws.{AreBytes}
use Rattle.pgv_value.specs.declared.value.PgValueFormat.{PgValueFormat}
use Rattle.pgv_value.proofs.Fronts.{front_exactly}
use Rattle.pgv_value.proofs.Numbers.{bytes_after}
use Rattle.pgv_value.proofs.ReadFronts.{are_bytes, frame_bytes}
use Rattle.pgv_buf.specs.Tokens.{shown}
use Rattle.pgv_wire.specs.Arguments.{Argument, all_cells}
use Rattle.pgv_wire.specs.ArgumentParts.{ReadAs, AllRead, parts_in}
use Rattle.pgv_message.specs.declared.error.MessageError.{MessageError}
use Rattle.pgv_message.specs.Messages.{bind}
use Rattle.pgv_copy.specs.CopyPieces.{joined}
use Rattle.pgv_message.specs.MessageWriting.{Writing, ◌>>=◌, text, ended_text, count_of, measured, whole_message, has_zero, max_body}
use Rattle.pgv_message.specs.Received.{message}
use Rattle.pgv_message.specs.Pieces.{format_bytes}
use Rattle.pgv_message.specs.Frames.{bind_of, ParametersAreArguments}

pub frames_are : (bytes : List ℕ) (parts : List Part) (rest : List ℕ) → AreBytes bytes → ReadAs bytes parts rest → (bytes ≡ flat_map field_bytes parts ++ rest) × AllByRecursion FitsLength parts
frames_are bytes [] rest h e = (e, tt)
frames_are bytes (p ∷ parts) rest h r =
    let frame = frame_bytes bytes p r.0 ((front_exactly bytes p r.0 h).0 r.1) in
    let more = frames_are r.0 parts rest (bytes_after (field_bytes p) r.0 (subst AreBytes frame.1 h)) r.2 in (
      frame.1 ∙ ap (λ (xs : List ℕ). field_bytes p ++ xs) more.0 ∙ sym (append_assoc (field_bytes p) (flat_map field_bytes parts) rest),
      (frame.0, more.1),
    )

-- ---- what is sent

step_is : {A : Type 0} (r : Writing (List ℕ)) (next : List ℕ → Writing A) (x : A) → r >>= next ≡ Ok x → (bytes : List ℕ) × (r ≡ Ok bytes) × (next bytes ≡ Ok x)
step_is (Ok bytes) next x e = (bytes, refl, e)
step_is (Err d) next x e = absurd cc

chosen : (b : Bool) (d : MessageError) (y x : List ℕ) → (let r : Writing (List ℕ) = if b then Err d else Ok y in r) ≡ Ok x → y ≡ x
chosen true d y x e = absurd cc
chosen false d y x e = cc

text_is : (name bytes : List ℕ) → ended_text name ≡ Ok bytes → text name ≡ bytes
unfolding ended_text
text_is name bytes e = chosen (has_zero name) _ (text name) bytes e

count_is : (n : ℕ) (bytes : List ℕ) → count_of n ≡ Ok bytes → to_be_bytes w16 n ≡ bytes
unfolding count_of
count_is n bytes e = chosen (nat_lt 65535 n) _ (to_be_bytes w16 n) bytes e

whole_is : (tag body bytes : List ℕ) → whole_message tag body ≡ Ok bytes → tag ++ measured body ≡ bytes
unfolding whole_message
whole_is tag body bytes e = chosen (nat_lt max_body (length body)) _ (tag ++ measured body) bytes e

same_four : (f : List ℕ → List ℕ → List ℕ → List ℕ → List ℕ) (a a' b b' c c' d d' : List ℕ) → a ≡ a' → b ≡ b' → c ≡ c' → d ≡ d' → f a b c d ≡ f a' b' c' d'
same_four f a a' b b' c c' d d' p q r s = ap (λ (x : List ℕ). f x b c d) p ∙ ap (λ (x : List ℕ). f a' x c d) q ∙ ap (λ (x : List ℕ). f a' b' x d) r ∙ ap (λ (x : List ℕ). f a' b' c' x) s

-- Bind with these texts and numbers
abbrev bind_with : List Argument → List PgValueFormat → List ℕ → List ℕ → List ℕ → List ℕ → List ℕ
bind_with arguments results portal statement many formats =
    message 66 (joined (portal ∷ statement ∷ to_be_bytes w16 1 ∷ to_be_bytes w16 1 ∷ many ∷ shown (all_cells arguments) ∷ formats ∷ flat_map format_bytes results ∷ []))

pub bind_is : (portal statement sent : List ℕ) (arguments : List Argument) (results : List PgValueFormat) → bind portal statement arguments results ≡ Ok sent →
    bind_with arguments results (text portal) (text statement) (to_be_bytes w16 (length arguments)) (to_be_bytes w16 (length results)) ≡ sent
unfolding bind
bind_is portal statement sent arguments results e =
    let p = step_is {A = List ℕ} (ended_text portal) _ sent e in
    let s = step_is {A = List ℕ} (ended_text statement) _ sent p.2 in
    let n = step_is {A = List ℕ} (count_of (length arguments)) _ sent s.2 in
    let m = step_is {A = List ℕ} (count_of (length results)) _ sent n.2 in
    same_four (bind_with arguments results) (text portal) p.0 (text statement) s.0 (to_be_bytes w16 (length arguments)) n.0 (to_be_bytes w16 (length results)) m.0
    (text_is portal p.0 p.1) (text_is statement s.0 s.1) (count_is (length arguments) n.0 n.1) (count_is (length results) m.0 m.1)
    ∙ whole_is (66 ∷ []) _ sent m.2

few_enough : (b : Bool) (d : MessageError) (y x : List ℕ) → (let r : Writing (List ℕ) = if b then Err d else Ok y in r) ≡ Ok x → b ≡ false
few_enough true d y x e = absurd cc
few_enough false d y x e = refl

count_fits : (n : ℕ) (bytes : List ℕ) → count_of n ≡ Ok bytes → n ≤ 65535
unfolding count_of
count_fits n bytes e = ltb-false 65535 n (few_enough (nat_lt 65535 n) _ (to_be_bytes w16 n) bytes e)

-- no more arguments are sent than their number can say
pub arguments_fit : (portal statement sent : List ℕ) (arguments : List Argument) (results : List PgValueFormat) → bind portal statement arguments results ≡ Ok sent → length arguments ≤ 65535
unfolding bind
arguments_fit portal statement sent arguments results e =
    let p = step_is {A = List ℕ} (ended_text portal) _ sent e in
    let s = step_is {A = List ℕ} (ended_text statement) _ sent p.2 in
    let n = step_is {A = List ℕ} (count_of (length arguments)) _ sent s.2 in
    count_fits (length arguments) n.0 n.1

pub parameters_are : (arguments : List Argument) (bytes : List ℕ) → ((i : ℕ) → get_or bytes i 0 < 256) → bytes ≡ shown (all_cells arguments) → AllRead arguments → ParametersAreArguments arguments
unfolding ParametersAreArguments
parameters_are arguments bytes h is read portal statement sent results e =
    let parts = parts_in read.0 arguments in
    let frames = frames_are bytes parts [] (are_bytes bytes h) (subst (λ (xs : List ℕ). ReadAs xs parts []) (sym is) read.2) in
    let shown_is : shown (all_cells arguments) ≡ flat_map field_bytes parts = sym is ∙ frames.0 ∙ append-nil (flat_map field_bytes parts) in
    let many : length parts ≡ length arguments = read.3 in
    let same : bind_of portal statement parts results ≡ sent = rw (← shown_is, many) (bind_is portal statement sent arguments results e) in
    record { images = read.0; of_images = read.1; many = many; each = frames.1; sent_is = sym same }
