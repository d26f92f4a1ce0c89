-- What contracts see of a request.
use Rattle.std.specs.Prelude.{option_map}
use Rattle.pgv_session.specs.Lines.{words}
use Rattle.pgv_session.specs.Spelled.{Ask as Asked, to_add, to_add_null, to_read, asks, asks_holes, resolves, asks_wire, copies, Request as RequestSeen}
use Rattle.pgv_session.specs.declared.line.Ask.{Ask}
use Rattle.pgv_session.specs.declared.line.Ask.TheVariants.{Add, Null, Read}
use Rattle.pgv_session.specs.declared.line.Request.{Request}
use Rattle.pgv_session.specs.declared.line.Request.TheVariants.{Of, Holes, Resolve, Wire, Copy}

abbrev pub ask_seen : Ask → Asked
ask_seen (Add text) = to_add text.now
ask_seen Null = to_add_null
ask_seen (Read part) = to_read (option_map (λ b. b.items) part)

abbrev pub request_seen : Request → RequestSeen
request_seen (Of name ask) = asks name.now (ask_seen ask)
request_seen Holes = asks_holes
request_seen (Resolve oids) = resolves oids.items
request_seen Wire = asks_wire
request_seen (Copy bytes names) = copies bytes.items (words names.now)
