use Rattle.std.proofs.Common.{ap, sym, ◌∙◌, option_map, arith}
use Rattle.pgv_types.specs.LentParts.{ref_type}
use Rattle.pgv_types.proofs.Elements.{element_size}
use Rattle.pgv_types.proofs.Related.{by_bases, when_open, by_names_first, by_names_second, by_elements}
use Rattle.pgv_types.proofs.relation.elements_related.Goals as goal

pub returns-in-Some : goal.returns-in-Some
returns-in-Some c =
    let bases = rw (c.as_type.ensures, c.as_type-in-loop-same.ensures) at (sym c.same_base.ensures ∙ c.in-Some.is) in
    by_bases c.args.soft (ref_type c.loop-same.left) (ref_type c.loop-same.right) c.in-Some.same bases ∙ c.loop-same.invariant.2

pub returns-then-is_open : goal.returns-then-is_open
returns-then-is_open c =
    let none = rw (c.as_type.ensures, c.as_type-in-loop-same.ensures) at (sym c.same_base.ensures ∙ c.in_default.is) in
    let is_open = rw (c.as_type-in-loop-same-2.ensures, c.as_type-in-loop-same-3.ensures) at (sym c.is_open.ensures ∙ c.if-is_open.true) in
    when_open c.args.soft (ref_type c.loop-same.left) (ref_type c.loop-same.right) none is_open ∙ c.loop-same.invariant.2

pub returns-in_default-element : goal.returns-in_default-element
returns-in_default-element c =
    let none = rw (c.as_type.ensures, c.as_type-in-loop-same.ensures) at (sym c.same_base.ensures ∙ c.in_default.is) in
    let is_open = rw (c.as_type-in-loop-same-2.ensures, c.as_type-in-loop-same-3.ensures) at (sym c.is_open.ensures ∙ c.if-is_open.false) in
    let agree = rw (c.as_type-in_default-element.ensures, c.as_type-in_default-element-2.ensures) at c.names_agree.ensures in
    agree
    ∙ by_names_first c.args.soft (ref_type c.loop-same.left) (ref_type c.loop-same.right) none is_open (sym c.element.ensures.element ∙ ap (option_map ref_type) c.in_default-element.is)
    ∙ c.loop-same.invariant.2

pub returns-in_default-element-2 : goal.returns-in_default-element-2
returns-in_default-element-2 c =
    let none = rw (c.as_type.ensures, c.as_type-in-loop-same.ensures) at (sym c.same_base.ensures ∙ c.in_default.is) in
    let is_open = rw (c.as_type-in-loop-same-2.ensures, c.as_type-in-loop-same-3.ensures) at (sym c.is_open.ensures ∙ c.if-is_open.false) in
    let agree = rw (c.as_type-in_default-element-2-2.ensures, c.as_type-in_default-element-2-3.ensures) at c.names_agree-in_default-element-2.ensures in
    agree
    ∙ by_names_second c.args.soft (ref_type c.loop-same.left) (ref_type c.loop-same.right) none is_open (sym c.element-in-loop-same.ensures.element ∙ ap (option_map ref_type) c.in_default-element-2.is)
    ∙ c.loop-same.invariant.2

pub loop-same-smaller : goal.loop-same-smaller
loop-same-smaller c =
    let e = element_size (ref_type c.loop-same.left) (ref_type c.in-Some-element.left_element) (sym c.element.ensures.element ∙ ap (option_map ref_type) c.in-Some-element.is) in
    omega (arith, e)

pub loop-same-preserved : goal.loop-same-preserved
loop-same-preserved c =
    let none = rw (c.as_type.ensures, c.as_type-in-loop-same.ensures) at (sym c.same_base.ensures ∙ c.in_default.is) in
    let is_open = rw (c.as_type-in-loop-same-2.ensures, c.as_type-in-loop-same-3.ensures) at (sym c.is_open.ensures ∙ c.if-is_open.false) in
    let first = sym c.element.ensures.element ∙ ap (option_map ref_type) c.in-Some-element.is in
    let second = sym c.element-in-loop-same.ensures.element ∙ ap (option_map ref_type) c.in-Some-element-2.is in (
      c.in-Some-element.ensures.held,
      c.in-Some-element-2.ensures.held,
      by_elements c.args.soft (ref_type c.loop-same.left) (ref_type c.loop-same.right) (ref_type c.in-Some-element.left_element) (ref_type c.in-Some-element-2.right_element) none is_open first second
          ∙ c.loop-same.invariant.2,
    )
