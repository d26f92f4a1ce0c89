-- What was sent and answered, one after the other.
use Rattle.std.proofs.Common.{◌≡◌, ℕ, Bool, true, false, List, [], ◌∷◌, ◌++◌, Option, Some, None, Result, Ok, Err, IfOk, OnOk, refl, sym, ap, ◌∙◌, subst, append-nil}
use Rattle.std.specs.List.{AllByRecursion}
use Rattle.std.specs.Prelude.{◌==◌, if◌then◌else◌}
use Rattle.std.specs.Io.KnownBytes.{Appends}
use Rattle.std.proofs.KnownBytes.{Appends-nil, Appends-trans}
use Rattle.pgquery.specs.Incoming.{AreInFront, Come, Incoming, unread}
use Rattle.pgquery.specs.Talks.{Converses, Talks, UpToReady, answers_among, is_passed_over}
use Rattle.pgquery.specs.declared.connection.Connection.{Connection}

-- ---- messages

in_front_on : (ms ns : List Incoming) (xs ys zs : List ℕ) → AreInFront ms xs ys → AreInFront ns ys zs → AreInFront (ms ++ ns) xs zs
in_front_on [] ns xs ys zs p q = subst (λ (ws : List ℕ). AreInFront ns ws zs) p q
in_front_on (m ∷ ms) ns xs ys zs p q = (p.0, p.1, in_front_on ms ns p.0 ys zs p.2 q)

come_on : (ms ns : List Incoming) (a b c : Option (List ℕ)) → Come ms a b → Come ns b c → Come (ms ++ ns) a c
come_on ms ns None b c p q = tt
come_on ms ns (Some xs) None c p q = absurd p
come_on ms ns (Some xs) (Some ys) None p q = absurd q
come_on ms ns (Some xs) (Some ys) (Some zs) p q = in_front_on ms ns xs ys zs p q

nothing_came : (a : Option (List ℕ)) → Come [] a a
nothing_came None = tt
nothing_came (Some xs) = refl

one_of_both : (b : Bool) (m : Incoming) (first second both : List Incoming) → both ≡ first ++ second → (if b then both else m ∷ both) ≡ (if b then first else m ∷ first) ++ second
one_of_both true m first second both is = is
one_of_both false m first second both is = ap (λ (l : List Incoming). m ∷ l) is

among_both : (ms ns : List Incoming) → answers_among (ms ++ ns) ≡ answers_among ms ++ answers_among ns
among_both [] ns = refl
among_both (m ∷ ms) ns = one_of_both (is_passed_over m.tag) m (answers_among ms) (answers_among ns) _ (among_both ms ns)

passed : (m : Incoming) → is_passed_over m.tag ≡ true → answers_among (m ∷ []) ≡ []
passed m is = rw is refl

answered : (m : Incoming) → is_passed_over m.tag ≡ false → answers_among (m ∷ []) ≡ m ∷ []
answered m is = rw is refl

-- ---- the answer to a request

abbrev pub NoneReady : List Incoming → Type 0
NoneReady = AllByRecursion (λ m. (m.tag == 90) ≡ false)

pub none_more : (ms : List Incoming) (m : Incoming) → NoneReady ms → (m.tag == 90) ≡ false → NoneReady (ms ++ m ∷ [])
none_more [] m each is = (is, tt)
none_more (n ∷ ms) m each is = (each.0, none_more ms m each.1 is)

pub up_to_ready : (ms : List Incoming) (m : Incoming) → NoneReady ms → m.tag ≡ 90 → UpToReady (ms ++ m ∷ [])
up_to_ready [] m each is = is
up_to_ready (n ∷ []) m each is = (each.0, is)
up_to_ready (n ∷ o ∷ ms) m each is = (each.0, up_to_ready (o ∷ ms) m each.1 is)

-- ---- results

pub if_ok : {A E : Type 0} {P Q : A → Type 0} (r : Result A E) → ((x : A) → P x → Q x) → IfOk r P → IfOk r Q
if_ok (Ok x) f p = f x p
if_ok (Err e) f p = tt

pub on_ok : {A E P Q : Type 0} (r : Result A E) → (P → Q) → OnOk r P → OnOk r Q
on_ok (Ok x) f p = f p
on_ok (Err e) f p = tt

-- ---- states of a session

module _ {R W : Type 0} (remaining : R → Option (List ℕ)) (contents : W → Option (List ℕ)) where
  pub silent : (a : Connection R W) → Talks remaining contents a a [] []
  silent a = ([], refl, Appends-nil (contents a.writer), nothing_came (unread remaining a.inbox))

  pub talks_on : (a b c : Connection R W) (s t : List ℕ) (ms ns : List Incoming) → Talks remaining contents a b s ms → Talks remaining contents b c t ns → Talks remaining contents a c (s ++ t) (ms ++ ns)
  talks_on a b c s t ms ns p q = (
    p.0 ++ q.0,
    among_both p.0 q.0 ∙ ap (λ (l : List Incoming). l ++ answers_among q.0) p.1 ∙ ap (λ (l : List Incoming). ms ++ l) q.1,
    Appends-trans _ _ _ s t p.2 q.2,
    come_on p.0 q.0 _ _ _ p.3 q.3,
  )

  came_one : (a b : Connection R W) (m : Incoming) (answers : List Incoming) → Come (m ∷ []) (unread remaining a.inbox) (unread remaining b.inbox) → b.writer ≡ a.writer → answers_among (m ∷ []) ≡ answers → Talks remaining contents a b [] answers
  came_one a b m answers p same is = (m ∷ [], is, subst (λ writer. Appends (contents a.writer) (contents writer) []) (sym same) (Appends-nil (contents a.writer)), p)

  pub passes : (a b : Connection R W) (m : Incoming) → Come (m ∷ []) (unread remaining a.inbox) (unread remaining b.inbox) → b.writer ≡ a.writer → is_passed_over m.tag ≡ true → Talks remaining contents a b [] []
  passes a b m p same is = came_one a b m [] p same (passed m is)

  pub answers : (a b : Connection R W) (m : Incoming) → Come (m ∷ []) (unread remaining a.inbox) (unread remaining b.inbox) → b.writer ≡ a.writer → is_passed_over m.tag ≡ false → Talks remaining contents a b [] (m ∷ [])
  answers a b m p same is = came_one a b m (m ∷ []) p same (answered m is)

  pub converses_on : (a b c : Connection R W) → Converses remaining contents a b → Converses remaining contents b c → Converses remaining contents a c
  converses_on a b c p q = (p.0 ++ q.0, p.1 ++ q.1, talks_on a b c p.0 q.0 p.1 q.1 p.2 q.2)

  -- something was sent, and then answered
  pub after_sending : (a b c : Connection R W) (sent : List ℕ) (answers : List Incoming) → Talks remaining contents a b sent [] → Talks remaining contents b c [] answers → Talks remaining contents a c sent answers
  after_sending a b c sent answers p q = subst (λ (all : List ℕ). Talks remaining contents a c all answers) (append-nil sent) (talks_on a b c sent [] [] answers p q)
