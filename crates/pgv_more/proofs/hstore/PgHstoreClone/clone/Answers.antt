use Rattle.pgv_more.proofs.EqualHstores.{same_pairs, same_values}
use Rattle.pgv_more.proofs.hstore.PgHstoreClone.clone.Goals as goal

pub returns : goal.returns
returns c = record { cases = same_pairs _ _ (λ a b h. h) (same_values _ (λ b h. h) (λ a h. h) (λ a b h. h)) c.args.self.now.0.entries c.in_ok-copy.copy.entries c.in_ok-copy.ensures.cases }
