use Rattle.std.proofs.Common.{◌≡◌, false, refl, sym, ◌∙◌}
use Rattle.std.specs.declared.rc.Rc.{Rc}
use Rattle.std.specs.declared.alloc.Global.{Global}
use Rattle.pgv_types.specs.Facts.{is_custom}
use Rattle.pgv_types.specs.Shown.{type_of}
use Rattle.pgv_types.specs.declared.custom.PgCustomType.{PgCustomType}
use Rattle.pgv_types.specs.declared.type_info.PgType.{PgType}
use Rattle.pgv_types.specs.declared.type_info.PgType.TheVariants.{Custom}
use Rattle.pgv_types.proofs.type_info.PgType.array_element.Goals as goal

not_custom : (t : PgType) → ((c : Rc PgCustomType Global) → t ≡ Custom c → ⊥) → is_custom (type_of t) ≡ false
not_custom (Custom c) h = absurd (h c refl)
not_custom _ h = refl

pub returns-in_ok-made_element-in_default : goal.returns-in_ok-made_element-in_default
returns-in_ok-made_element-in_default c = record {
  element = sym c.in_ok-made_element-in_default.was ∙ c.made_element.ensures.element (not_custom c.args.self.now c.in_default.not-Custom);
  held = c.in_ok-made_element-in_default.ensures.made;
}
