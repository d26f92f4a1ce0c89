-- Laws of the extended query, over every list of requests and messages.
use Rattle.std.specs.Prelude.{Bool, ◌≡◌, ℕ, true, false, ◌⊎◌, List, [], ◌∷◌, ◌++◌, replicate, Option, Some, option_and_then, if◌then◌else◌, ◌||◌, not}
use Rattle.std.specs.List.{AllByRecursion}
use Rattle.pgv_message.specs.declared.exchange.PgRequest.{PgRequest}
use Rattle.pgv_message.specs.declared.exchange.PgRequest.TheVariants as request
use Rattle.pgv_message.specs.declared.tag.PgTag.{PgTag}
use Rattle.pgv_message.specs.declared.tag.PgTag.TheVariants as tag
use Rattle.pgv_message.specs.Exchange.{Exchange, idle, sent, exchange_step, is_async, is_error, until_sync}

-- messages that come one after another
abbrev pub takes_all : Exchange → List PgTag → Option Exchange
takes_all x [] = Some x
takes_all x (t ∷ ts) = option_and_then (λ y. takes_all y ts) (exchange_step x t)

-- requests that are sent one after another
abbrev pub all_sent : Exchange → List PgRequest → Exchange
all_sent x [] = x
all_sent x (r ∷ rs) = all_sent (sent x r) rs

-- ---- answers

-- what describes rows: their columns, or that there are none
abbrev pub DescribesRows : List PgTag → Type 0
DescribesRows ts = (ts ≡ tag.RowDescription ∷ []) ⊎ (ts ≡ tag.NoData ∷ [])

-- the data of a COPY to the driver, and what ends them
abbrev pub copied_out : ℕ → List PgTag
copied_out n = tag.CopyOutResponse ∷ (replicate n tag.CopyData ++ tag.CopyDone ∷ tag.CommandComplete ∷ [])

-- what comes after rows: the command's end, that it was empty, or that as many rows as were asked for have come; or a
-- COPY
abbrev pub EndsRows : List PgTag → Type 0
EndsRows ts =
    (ts ≡ tag.CommandComplete ∷ []) ⊎ ((ts ≡ tag.EmptyQueryResponse ∷ []) ⊎ ((ts ≡ tag.PortalSuspended ∷ []) ⊎
    ((ts ≡ tag.CopyInResponse ∷ tag.CommandComplete ∷ []) ⊎ ((n : ℕ) × (ts ≡ copied_out n)))))

-- The messages that answer a request, where it is not refused (PostgreSQL: "Message Flow", "Extended Query").
abbrev pub IsAnswer : PgRequest → List PgTag → Type 0
IsAnswer request.Parse ts = ts ≡ tag.ParseComplete ∷ []
IsAnswer request.Bind ts = ts ≡ tag.BindComplete ∷ []
IsAnswer request.DescribeStatement ts = (rest : List PgTag) × (ts ≡ tag.ParameterDescription ∷ rest) × DescribesRows rest
IsAnswer request.DescribePortal ts = DescribesRows ts
IsAnswer request.Execute ts = (rows : ℕ) × (last : List PgTag) × (ts ≡ replicate rows tag.DataRow ++ last) × EndsRows last
IsAnswer request.Close ts = ts ≡ tag.CloseComplete ∷ []
IsAnswer request.Sync ts = ts ≡ tag.ReadyForQuery ∷ []

-- an answer to each request, in order
abbrev pub AreAnswers : List PgRequest → List PgTag → Type 0
AreAnswers [] ts = ts ≡ []
AreAnswers (r ∷ rs) ts = (first : List PgTag) × (more : List PgTag) × (ts ≡ first ++ more) × IsAnswer r first × AreAnswers rs more

abbrev pub without_async : List PgTag → List PgTag
without_async [] = []
without_async (t ∷ ts) = if is_async t then without_async ts else t ∷ without_async ts

-- ---- laws

-- When the answers to all requests have come, in order, nothing is awaited.
unfoldable pub AnswersEndTheExchange : Type 0
AnswersEndTheExchange = (rs : List PgRequest) (ts : List PgTag) → AreAnswers rs ts → takes_all (all_sent idle rs) ts ≡ Some idle

-- a message that belongs to an answer: it neither comes at any time nor is an error
abbrev pub is_of_answer : PgTag → Bool
is_of_answer t = not (is_async t || is_error t)

-- Where nothing is awaited after messages that belong to answers, they are the answers to all requests, in order.
unfoldable pub OnlyAnswersEndTheExchange : Type 0
OnlyAnswersEndTheExchange = (rs : List PgRequest) (ts : List PgTag) → AllByRecursion (λ t. is_of_answer t ≡ true) ts → takes_all (all_sent idle rs) ts ≡ Some idle → AreAnswers rs ts

-- Messages that come at any time change nothing.
unfoldable pub AsyncChangesNothing : Type 0
AsyncChangesNothing = (x : Exchange) (ts : List PgTag) → takes_all x ts ≡ takes_all x (without_async ts)

-- An error ends all requests before the next Sync, and the server then passes over requests.
unfoldable pub ErrorSkipsToSync : Type 0
ErrorSkipsToSync = (x y : Exchange) → exchange_step x tag.ErrorResponse ≡ Some y → (y.waiting ≡ until_sync x.waiting) × (y.skipping ≡ true)

-- After an error only the ReadyForQuery may come, which ends the passing over, and what may come at any time, which
-- leaves all as it is.
abbrev pub OnlyReadyEndsSkipping : Type 0
OnlyReadyEndsSkipping = (x y : Exchange) (t : PgTag) → x.skipping ≡ true → exchange_step x t ≡ Some y → ((is_async t ≡ true) × (y ≡ x)) ⊎ ((t ≡ tag.ReadyForQuery) × (y.skipping ≡ false))

-- No request ends the passing over.
abbrev pub RequestsDoNotEndSkipping : Type 0
RequestsDoNotEndSkipping = (x : Exchange) (r : PgRequest) → (sent x r).skipping ≡ x.skipping
