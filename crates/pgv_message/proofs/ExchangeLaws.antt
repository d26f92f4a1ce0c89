-- Laws of the extended query.
use Rattle.std.proofs.Common.{◌≡◌, ℕ, zero, suc, Bool, true, false, List, [], ◌∷◌, ◌++◌, map, Option, Some, None, refl, sym, ap, ◌∙◌, append_assoc, append-nil, inl, inr}
use Rattle.std.specs.Prelude.{not, ◌&&◌, ◌==◌, length, replicate, if◌then◌else◌, ◌⊎◌}
use Rattle.std.specs.List.{AllByRecursion}
use Rattle.std.proofs.lemmas.Option.{same_Some as same_some}
use Rattle.pgv_message.specs.declared.exchange.PgRequest.{PgRequest}
use Rattle.pgv_message.specs.declared.exchange.PgRequest.TheVariants as request
use Rattle.pgv_message.specs.declared.exchange.PgAwaited.{PgAwaited}
use Rattle.pgv_message.specs.declared.exchange.PgAwaited.TheVariants as awaited
use Rattle.pgv_message.specs.declared.tag.PgTag.{PgTag}
use Rattle.pgv_message.specs.declared.tag.PgTag.TheVariants as tag
use Rattle.pgv_message.specs.Exchange.{Exchange, idle, sent, exchange_step, answer, stage_of, is_async, is_sync, until_sync}
use Rattle.pgv_message.specs.ExchangeLaws.{takes_all, all_sent, DescribesRows, EndsRows, IsAnswer, AreAnswers, without_async, is_of_answer, AnswersEndTheExchange, OnlyAnswersEndTheExchange, AsyncChangesNothing, ErrorSkipsToSync, OnlyReadyEndsSkipping, RequestsDoNotEndSkipping}

-- ---- asynchronous messages

async_stays : (x : Exchange) (t : PgTag) → is_async t ≡ true → exchange_step x t ≡ Some x
unfolding exchange_step
async_stays x t e = rw e refl

async_by : (b : Bool) (x : Exchange) (t : PgTag) (ts : List PgTag) → is_async t ≡ b → ((y : Exchange) → takes_all y ts ≡ takes_all y (without_async ts)) → takes_all x (t ∷ ts) ≡ takes_all x (if b then without_async ts else t ∷ without_async ts)
async_by true x t ts e more = rw (async_stays x t e) (more x)
async_by false x t ts e more = by_step (exchange_step x t)
  where
    by_step : (o : Option Exchange) → Rattle.std.specs.Prelude.option_and_then (λ y. takes_all y ts) o ≡ Rattle.std.specs.Prelude.option_and_then (λ y. takes_all y (without_async ts)) o
    by_step None = refl
    by_step (Some y) = more y

pub async_changes_nothing : AsyncChangesNothing
unfolding AsyncChangesNothing
async_changes_nothing x [] = refl
async_changes_nothing x (t ∷ ts) = async_by (is_async t) x t ts refl (λ y. async_changes_nothing y ts)

-- ---- errors

by_skipping : (b : Bool) (z y : Exchange) → (if b then None else Some z) ≡ Some y → z ≡ y
by_skipping true z y e = absurd cc
by_skipping false z y e = same_some z y e

pub error_skips_to_sync : ErrorSkipsToSync
unfolding ErrorSkipsToSync exchange_step
error_skips_to_sync x y e =
    let z : Exchange = record { waiting = until_sync x.waiting; skipping = true } in
    let same : z ≡ y = by_skipping x.skipping z y e in
    (ap (λ (w : Exchange). w.waiting) (sym same), ap (λ (w : Exchange). w.skipping) (sym same))

-- ---- requests

request_by : (b : Bool) (x z : Exchange) → z.skipping ≡ x.skipping → (if b then x else z).skipping ≡ x.skipping
request_by true x z e = refl
request_by false x z e = e

pub requests_do_not_end_skipping : RequestsDoNotEndSkipping
unfolding sent
requests_do_not_end_skipping x r = request_by (x.skipping && (length x.waiting == 0) && not (is_sync r)) x (record { waiting = x.waiting ++ stage_of r ∷ []; skipping = x.skipping }) refl

abbrev awaiting : List PgAwaited → Exchange
awaiting ws = record { waiting = ws; skipping = false }

one_sent : (ws : List PgAwaited) (r : PgRequest) → sent (awaiting ws) r ≡ awaiting (ws ++ stage_of r ∷ [])
unfolding sent
one_sent ws r = refl

all_are : (ws : List PgAwaited) (rs : List PgRequest) → all_sent (awaiting ws) rs ≡ awaiting (ws ++ map stage_of rs)
all_are ws [] = ap awaiting (sym (append-nil ws))
all_are ws (r ∷ rs) =
    ap (λ (x : Exchange). all_sent x rs) (one_sent ws r) ∙ all_are (ws ++ stage_of r ∷ []) rs ∙ ap awaiting (append_assoc ws (stage_of r ∷ []) (map stage_of rs))

-- ---- answers

describes : (rest : List PgAwaited) (ts more : List PgTag) → DescribesRows ts → takes_all (awaiting (awaited.Columns ∷ rest)) (ts ++ more) ≡ takes_all (awaiting rest) more
unfolding exchange_step
describes rest ts more (inl e) = rw e refl
describes rest ts more (inr e) = rw e refl

parameters : (rest : List PgAwaited) (ts : List PgTag) → takes_all (awaiting (awaited.Parameters ∷ rest)) (tag.ParameterDescription ∷ ts) ≡ takes_all (awaiting (awaited.Columns ∷ rest)) ts
unfolding exchange_step
parameters rest ts = refl

copied : (rest : List PgAwaited) (n : ℕ) (more : List PgTag) → takes_all (awaiting (awaited.CopyData ∷ rest)) ((replicate n tag.CopyData ++ tag.CopyDone ∷ tag.CommandComplete ∷ []) ++ more) ≡ takes_all (awaiting rest) more
unfolding exchange_step
copied rest zero more = refl
copied rest (suc n) more = copied rest n more

copy_begins : (rest : List PgAwaited) (ts : List PgTag) → takes_all (awaiting (awaited.Rows ∷ rest)) (tag.CopyOutResponse ∷ ts) ≡ takes_all (awaiting (awaited.CopyData ∷ rest)) ts
unfolding exchange_step
copy_begins rest ts = refl

rows_end : (rest : List PgAwaited) (ts more : List PgTag) → EndsRows ts → takes_all (awaiting (awaited.Rows ∷ rest)) (ts ++ more) ≡ takes_all (awaiting rest) more
unfolding exchange_step
rows_end rest ts more (inl e) = rw e refl
rows_end rest ts more (inr (inl e)) = rw e refl
rows_end rest ts more (inr (inr (inl e))) = rw e refl
rows_end rest ts more (inr (inr (inr (inl e)))) = rw e refl
rows_end rest ts more (inr (inr (inr (inr e)))) = rw e.1 (copy_begins rest ((replicate e.0 tag.CopyData ++ tag.CopyDone ∷ tag.CommandComplete ∷ []) ++ more) ∙ copied rest e.0 more)

row_comes : (rest : List PgAwaited) (ts : List PgTag) → takes_all (awaiting (awaited.Rows ∷ rest)) (tag.DataRow ∷ ts) ≡ takes_all (awaiting (awaited.Rows ∷ rest)) ts
unfolding exchange_step
row_comes rest ts = refl

rows : (rest : List PgAwaited) (n : ℕ) (last more : List PgTag) → EndsRows last → takes_all (awaiting (awaited.Rows ∷ rest)) ((replicate n tag.DataRow ++ last) ++ more) ≡ takes_all (awaiting rest) more
rows rest zero last more e = rows_end rest last more e
rows rest (suc n) last more e = row_comes rest ((replicate n tag.DataRow ++ last) ++ more) ∙ rows rest n last more e

answered : (rest : List PgAwaited) (r : PgRequest) (ts more : List PgTag) → IsAnswer r ts → takes_all (awaiting (stage_of r ∷ rest)) (ts ++ more) ≡ takes_all (awaiting rest) more
unfolding exchange_step
answered rest request.Parse ts more e = rw e refl
answered rest request.Bind ts more e = rw e refl
answered rest request.DescribeStatement ts more e = rw e.1 (parameters rest (e.0 ++ more) ∙ describes rest e.0 more e.2)
answered rest request.DescribePortal ts more e = describes rest ts more e
answered rest request.Execute ts more e = rw e.2 (rows rest e.0 e.1 more e.3)
answered rest request.Close ts more e = rw e refl
answered rest request.Sync ts more e = rw e refl

all_answered : (rs : List PgRequest) (ts : List PgTag) → AreAnswers rs ts → takes_all (awaiting (map stage_of rs)) ts ≡ Some idle
all_answered [] ts e = rw e refl
all_answered (r ∷ rs) ts e = rw e.2 (answered (map stage_of rs) r e.0 e.1 e.3 ∙ all_answered rs e.1 e.4)

pub answers_end_the_exchange : AnswersEndTheExchange
unfolding AnswersEndTheExchange
answers_end_the_exchange rs ts e = ap (λ (x : Exchange). takes_all x ts) (all_are [] rs) ∙ all_answered rs ts e

-- ---- after an error

ready_alone : (x y : Exchange) → answer x tag.ReadyForQuery ≡ Some y → y.skipping ≡ false
ready_alone x y e = by_left (Rattle.pgv_message.specs.Exchange.after_first x.waiting tag.ReadyForQuery) y e
  where
    by_left : (o : Option (List PgAwaited)) (y : Exchange) → Rattle.std.specs.Prelude.option_map (λ left. record { waiting = left; skipping = false }) o ≡ Some y → y.skipping ≡ false
    by_left None y e = absurd cc
    by_left (Some left) y e = ap (λ (w : Exchange). w.skipping) (sym (same_some {A = Exchange} _ y e))

only_by : (x y : Exchange) (t : PgTag) → true ≡ true → x.skipping ≡ true → exchange_step x t ≡ Some y → ((is_async t ≡ true) × (y ≡ x)) ⊎ ((t ≡ tag.ReadyForQuery) × (y.skipping ≡ false))
unfolding exchange_step
only_by x y tag.NoticeResponse u s e = inl (refl, sym (same_some {A = Exchange} x y e))
only_by x y tag.ParameterStatus u s e = inl (refl, sym (same_some {A = Exchange} x y e))
only_by x y tag.NotificationResponse u s e = inl (refl, sym (same_some {A = Exchange} x y e))
only_by x y tag.ReadyForQuery u s e = inr (refl, ready_alone x y (rw s at e))
only_by x y _ u s e = absurd cc

pub only_ready_ends_skipping : OnlyReadyEndsSkipping
only_ready_ends_skipping x y t s e = only_by x y t refl s e

-- ---- what ends the exchange are answers

-- the messages that answer a request from here on
abbrev IsRest : PgAwaited → List PgTag → Type 0
IsRest awaited.Parsed ts = ts ≡ tag.ParseComplete ∷ []
IsRest awaited.Bound ts = ts ≡ tag.BindComplete ∷ []
IsRest awaited.Parameters ts = (rest : List PgTag) × (ts ≡ tag.ParameterDescription ∷ rest) × DescribesRows rest
IsRest awaited.Columns ts = DescribesRows ts
IsRest awaited.Rows ts = (n : ℕ) × (last : List PgTag) × (ts ≡ replicate n tag.DataRow ++ last) × EndsRows last
IsRest awaited.CopyData ts = (n : ℕ) × (ts ≡ replicate n tag.CopyData ++ tag.CopyDone ∷ tag.CommandComplete ∷ [])
IsRest awaited.Completion ts = ts ≡ tag.CommandComplete ∷ []
IsRest awaited.Closed ts = ts ≡ tag.CloseComplete ∷ []
IsRest awaited.Ready ts = ts ≡ tag.ReadyForQuery ∷ []

abbrev AreRests : List PgAwaited → List PgTag → Type 0
AreRests [] ts = ts ≡ []
AreRests (a ∷ ws) ts = (first : List PgTag) × (more : List PgTag) × (ts ≡ first ++ more) × IsRest a first × AreRests ws more

none_awaited : (t : PgTag) (ts : List PgTag) → is_of_answer t ≡ true → takes_all (awaiting []) (t ∷ ts) ≡ None
unfolding exchange_step
none_awaited tag.NoticeResponse ts h = absurd cc
none_awaited tag.ParameterStatus ts h = absurd cc
none_awaited tag.NotificationResponse ts h = absurd cc
none_awaited tag.ErrorResponse ts h = absurd cc
none_awaited _ ts h = refl

not_both : {A : Type 0} (x : A) → (let o : Option A = None in o) ≡ Some x → ⊥
not_both x e = cc

belong : (ws : List PgAwaited) (ts : List PgTag) → AllByRecursion (λ t. is_of_answer t ≡ true) ts → takes_all (awaiting ws) ts ≡ Some idle → AreRests ws ts
unfolding exchange_step
belong [] [] h e = refl
belong [] (t ∷ ts) h e = absurd (let no : (let o : Option Exchange = None in o) ≡ Some idle = sym (none_awaited t ts h.0) ∙ e in cc)
belong (a ∷ ws) [] h e = absurd (let no : a ∷ ws ≡ [] = ap (λ (x : Exchange). x.waiting) (same_some {A = Exchange} _ _ e) in cc)
belong (awaited.Parsed ∷ ws) (tag.ParseComplete ∷ ts) h e = (tag.ParseComplete ∷ [], ts, refl, refl, belong ws ts h.1 e)
belong (awaited.Bound ∷ ws) (tag.BindComplete ∷ ts) h e = (tag.BindComplete ∷ [], ts, refl, refl, belong ws ts h.1 e)
belong (awaited.Closed ∷ ws) (tag.CloseComplete ∷ ts) h e = (tag.CloseComplete ∷ [], ts, refl, refl, belong ws ts h.1 e)
belong (awaited.Ready ∷ ws) (tag.ReadyForQuery ∷ ts) h e = (tag.ReadyForQuery ∷ [], ts, refl, refl, belong ws ts h.1 e)
belong (awaited.Completion ∷ ws) (tag.CommandComplete ∷ ts) h e = (tag.CommandComplete ∷ [], ts, refl, refl, belong ws ts h.1 e)
belong (awaited.Columns ∷ ws) (tag.RowDescription ∷ ts) h e = (tag.RowDescription ∷ [], ts, refl, inl refl, belong ws ts h.1 e)
belong (awaited.Columns ∷ ws) (tag.NoData ∷ ts) h e = (tag.NoData ∷ [], ts, refl, inr refl, belong ws ts h.1 e)
belong (awaited.Parameters ∷ ws) (tag.ParameterDescription ∷ ts) h e =
    let b = belong (awaited.Columns ∷ ws) ts h.1 e in
    (tag.ParameterDescription ∷ b.0, b.1, ap (λ (xs : List PgTag). tag.ParameterDescription ∷ xs) b.2, (b.0, refl, b.3), b.4)
belong (awaited.Rows ∷ ws) (tag.DataRow ∷ ts) h e =
    let b = belong (awaited.Rows ∷ ws) ts h.1 e in
    let longer = λ (xs : List PgTag). tag.DataRow ∷ xs in
    (tag.DataRow ∷ b.0, b.1, ap longer b.2, (suc b.3.0, b.3.1, ap longer b.3.2, b.3.3), b.4)
belong (awaited.Rows ∷ ws) (tag.CommandComplete ∷ ts) h e = (tag.CommandComplete ∷ [], ts, refl, (0, tag.CommandComplete ∷ [], refl, inl refl), belong ws ts h.1 e)
belong (awaited.Rows ∷ ws) (tag.EmptyQueryResponse ∷ ts) h e = (tag.EmptyQueryResponse ∷ [], ts, refl, (0, tag.EmptyQueryResponse ∷ [], refl, inr (inl refl)), belong ws ts h.1 e)
belong (awaited.Rows ∷ ws) (tag.PortalSuspended ∷ ts) h e = (tag.PortalSuspended ∷ [], ts, refl, (0, tag.PortalSuspended ∷ [], refl, inr (inr (inl refl))), belong ws ts h.1 e)
belong (awaited.Rows ∷ ws) (tag.CopyInResponse ∷ ts) h e =
    let b = belong (awaited.Completion ∷ ws) ts h.1 e in
    let longer = λ (xs : List PgTag). tag.CopyInResponse ∷ xs in
    (tag.CopyInResponse ∷ b.0, b.1, ap longer b.2, (0, tag.CopyInResponse ∷ b.0, refl, inr (inr (inr (inl (ap longer b.3))))), b.4)
belong (awaited.Rows ∷ ws) (tag.CopyOutResponse ∷ ts) h e =
    let b = belong (awaited.CopyData ∷ ws) ts h.1 e in
    let longer = λ (xs : List PgTag). tag.CopyOutResponse ∷ xs in
    (tag.CopyOutResponse ∷ b.0, b.1, ap longer b.2, (0, tag.CopyOutResponse ∷ b.0, refl, inr (inr (inr (inr (b.3.0, ap longer b.3.1))))), b.4)
belong (awaited.CopyData ∷ ws) (tag.CopyData ∷ ts) h e =
    let b = belong (awaited.CopyData ∷ ws) ts h.1 e in
    let longer = λ (xs : List PgTag). tag.CopyData ∷ xs in
    (tag.CopyData ∷ b.0, b.1, ap longer b.2, (suc b.3.0, ap longer b.3.1), b.4)
belong (awaited.CopyData ∷ ws) (tag.CopyDone ∷ ts) h e =
    let b = belong (awaited.Completion ∷ ws) ts h.1 e in
    let longer = λ (xs : List PgTag). tag.CopyDone ∷ xs in
    (tag.CopyDone ∷ b.0, b.1, ap longer b.2, (0, ap longer b.3), b.4)
belong (a ∷ ws) (tag.NoticeResponse ∷ ts) h e = absurd cc
belong (a ∷ ws) (tag.ParameterStatus ∷ ts) h e = absurd cc
belong (a ∷ ws) (tag.NotificationResponse ∷ ts) h e = absurd cc
belong (a ∷ ws) (tag.ErrorResponse ∷ ts) h e = absurd cc
belong (_ ∷ ws) (_ ∷ ts) h e = absurd (not_both idle e)

rest_is : (r : PgRequest) (ts : List PgTag) → IsRest (stage_of r) ts → IsAnswer r ts
rest_is request.Parse ts h = h
rest_is request.Bind ts h = h
rest_is request.DescribeStatement ts h = h
rest_is request.DescribePortal ts h = h
rest_is request.Execute ts h = h
rest_is request.Close ts h = h
rest_is request.Sync ts h = h

rests_are : (rs : List PgRequest) (ts : List PgTag) → AreRests (map stage_of rs) ts → AreAnswers rs ts
rests_are [] ts h = h
rests_are (r ∷ rs) ts h = (h.0, h.1, h.2, rest_is r h.0 h.3, rests_are rs h.1 h.4)

pub only_answers_end_the_exchange : OnlyAnswersEndTheExchange
unfolding OnlyAnswersEndTheExchange
only_answers_end_the_exchange rs ts h e = rests_are rs ts (belong (map stage_of rs) ts h (ap (λ (x : Exchange). takes_all x ts) (sym (all_are [] rs)) ∙ e))
