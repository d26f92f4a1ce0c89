use Rattle.pgquery.proofs.Talking.{on_ok}
use Rattle.pgquery.proofs.statement.run.Goals as goal

pub returns : goal.returns
returns g c =
    let statement = c.in_ok-described.described in
    let bindings = c.in_ok-bindings.bindings in
    let prepares = rw c.as_str.ensures.value at c.in_ok-described.ensures in
    let is_description = rw c.as_slice-2.ensures.value at c.in_ok-columns.ensures.1.0 in
    let executes = rw c.results_of-format.ensures at c.in_ok-execute.ensures in
    on_ok c.show_rows.result
    (λ k. (
      k.0,
      k.1,
      record {
        prepared = c.prepare_at_last.new.connection;
        executed = c.execute.new.connection;
        body = statement.rows.items;
        known = _;
        columns = c.in_ok-columns.columns;
        arguments = bindings.arguments;
        parameters = bindings.format;
        prepares = prepares;
        is_description = is_description;
        executes = executes;
        shows = rw (c.set_format.ensures, c.results_of-format.ensures) at k.2;
      },
    )) c.show_rows.ensures
