-- The extended query as a machine (PostgreSQL: "Message Flow", "Extended Query"): the requests that a driver has sent
-- and that are not answered yet, in order, and whether the server passes over requests after an error. What a server
-- sends belongs to the first of these requests. An ErrorResponse ends them all up to the next Sync, whose ReadyForQuery
-- then comes, and nothing else. Notices, statuses of parameters and notifications may come at any time.
use Rattle.std.specs.Prelude.{◌≡◌, ℕ, Bool, true, false, not, ◌&&◌, ◌==◌, length, List, [], ◌∷◌, ◌++◌, Option, Some, None, option_map, option_and_then, Result, Ok, Err, if◌then◌else◌}
use Rattle.pgv_message.specs.declared.exchange.PgExchange.{PgExchange}
use Rattle.pgv_message.specs.declared.exchange.PgRequest.{PgRequest}
use Rattle.pgv_message.specs.declared.exchange.PgRequest.TheVariants as request
use Rattle.pgv_message.specs.declared.exchange.PgAwaited.{PgAwaited}
use Rattle.pgv_message.specs.declared.exchange.PgAwaited.TheVariants as awaited
use Rattle.pgv_message.specs.declared.exchange.UnexpectedMessage.{UnexpectedMessage}
use Rattle.pgv_message.specs.declared.tag.PgTag.{PgTag}
use Rattle.pgv_message.specs.declared.tag.PgTag.TheVariants as tag
use Rattle.pgv_message.specs.Tags.{tag_of}

pub record Exchange : Type 0 where
  pub waiting : List PgAwaited
  pub skipping : Bool

abbrev pub exchange_of : PgExchange → Exchange
exchange_of x = record { waiting = x.waiting.items; skipping = x.skipping }

-- what a server answers to a request
abbrev pub stage_of : PgRequest → PgAwaited
stage_of request.Parse = awaited.Parsed
stage_of request.Bind = awaited.Bound
stage_of request.DescribeStatement = awaited.Parameters
stage_of request.DescribePortal = awaited.Columns
stage_of request.Execute = awaited.Rows
stage_of request.Close = awaited.Closed
stage_of request.Sync = awaited.Ready

-- a message that comes at any time
abbrev pub is_async : PgTag → Bool
is_async tag.NoticeResponse = true
is_async tag.ParameterStatus = true
is_async tag.NotificationResponse = true
is_async _ = false

-- what is awaited after a message of an answer, where this may come: nothing, or the rest of the answer
abbrev pub after_front : PgAwaited → PgTag → Option (Option PgAwaited)
after_front awaited.Parsed tag.ParseComplete = Some None
after_front awaited.Bound tag.BindComplete = Some None
after_front awaited.Parameters tag.ParameterDescription = Some (Some awaited.Columns)
after_front awaited.Columns tag.RowDescription = Some None
after_front awaited.Columns tag.NoData = Some None
after_front awaited.Rows tag.DataRow = Some (Some awaited.Rows)
after_front awaited.Rows tag.CommandComplete = Some None
after_front awaited.Rows tag.EmptyQueryResponse = Some None
after_front awaited.Rows tag.PortalSuspended = Some None
after_front awaited.Rows tag.CopyOutResponse = Some (Some awaited.CopyData)
after_front awaited.Rows tag.CopyInResponse = Some (Some awaited.Completion)
after_front awaited.CopyData tag.CopyData = Some (Some awaited.CopyData)
after_front awaited.CopyData tag.CopyDone = Some (Some awaited.Completion)
after_front awaited.Completion tag.CommandComplete = Some None
after_front awaited.Closed tag.CloseComplete = Some None
after_front awaited.Ready tag.ReadyForQuery = Some None
after_front _ _ = None

abbrev pub is_ready : PgAwaited → Bool
is_ready awaited.Ready = true
is_ready _ = false

-- the requests from the next Sync on
abbrev pub until_sync : List PgAwaited → List PgAwaited
until_sync [] = []
until_sync (a ∷ rest) = if is_ready a then a ∷ rest else until_sync rest

-- nothing is awaited
abbrev pub idle : Exchange
idle = record { waiting = []; skipping = false }

abbrev pub is_sync : PgRequest → Bool
is_sync request.Sync = true
is_sync _ = false

-- A request is sent. A server that passes over requests answers none before a Sync.
unfoldable pub sent : Exchange → PgRequest → Exchange
sent x r =
    if x.skipping && length x.waiting == 0 && not (is_sync r) then x else
    record { waiting = x.waiting ++ stage_of r ∷ []; skipping = x.skipping }

-- ---- a message comes

-- the requests, where what is left of the first one's answer is this
abbrev pub requests_with_rest : List PgAwaited → Option PgAwaited → List PgAwaited
requests_with_rest rest None = rest
requests_with_rest rest (Some a) = a ∷ rest

abbrev pub after_first : List PgAwaited → PgTag → Option (List PgAwaited)
after_first [] t = None
after_first (a ∷ rest) t = option_map (requests_with_rest rest) (after_front a t)

-- a message of the first request's answer
abbrev pub answer : Exchange → PgTag → Option Exchange
answer x t = option_map (λ left. record { waiting = left; skipping = false }) (after_first x.waiting t)

-- an error, after which the server passes over requests
abbrev pub error : Exchange → Option Exchange
error x = if x.skipping then None else Some (record { waiting = until_sync x.waiting; skipping = true })

abbrev pub is_error : PgTag → Bool
is_error tag.ErrorResponse = true
is_error _ = false

abbrev pub ends_skipping : PgTag → Bool
ends_skipping tag.ReadyForQuery = true
ends_skipping _ = false

unfoldable pub exchange_step : Exchange → PgTag → Option Exchange
exchange_step x t =
    if is_async t then Some x else
    if is_error t then error x else
    if x.skipping && not (ends_skipping t) then None else
    answer x t

-- ---- what the calls leave

-- a message is taken, or all is as before
abbrev pub TakesBy : Option Exchange → Exchange → Exchange → Bool → Type 0
TakesBy next old new true = next ≡ Some new
TakesBy next old new false = (next ≡ None) × (new ≡ old)

abbrev pub TakesTag : Exchange → PgTag → Exchange → Bool → Type 0
TakesTag old t new taken = TakesBy (exchange_step old t) old new taken

abbrev pub TakesError : Exchange → Exchange → Bool → Type 0
TakesError old new taken = TakesBy (error old) old new taken

abbrev pub TakesAnswer : Exchange → PgTag → Exchange → Bool → Type 0
TakesAnswer old t new taken = TakesBy (answer old t) old new taken

-- a message that a byte names may come
abbrev pub step_by : Exchange → ℕ → Option (PgTag × Exchange)
step_by x byte = option_and_then (λ t. option_map (λ y. (t, y)) (exchange_step x t)) (tag_of byte)

-- The message that the byte names is taken; or it may not come, and all is as before.
abbrev pub Steps : Exchange → ℕ → Exchange → Result PgTag UnexpectedMessage → Type 0
Steps old byte new (Ok t) = step_by old byte ≡ Some (t, new)
Steps old byte new (Err e) = (step_by old byte ≡ None) × (new ≡ old) × (e.0 ≡ byte)
