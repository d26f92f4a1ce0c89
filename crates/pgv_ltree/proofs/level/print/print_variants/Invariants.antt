use Rattle.std.proofs.Common.{◌≡◌, [], ◌∷◌, get_or, take, false, true}
use Rattle.std.specs.List.{list_all}
use Rattle.pgv_ltree.specs.Queries.{is_variant}
use Rattle.pgv_ltree.specs.QueryPrinted.{printed_variants}
use Rattle.pgv_ltree.proofs.level.print.print_variants.Given as goal

-- the variants so far
abbrev pub invariant-loop-variant : goal.invariant-loop-variant
invariant-loop-variant g l =
    record {
      variants : list_all is_variant (get_or l.variants 0 (record { label = []; any_end = false; in_case = false; sublexeme = false }) ∷ take l.variant-index l.rest) ≡ true;
      written : g.S.Sink.took l.fn.out (printed_variants (get_or l.variants 0 (record { label = []; any_end = false; in_case = false; sublexeme = false }) ∷ take l.variant-index l.rest)) l.out;
    }
