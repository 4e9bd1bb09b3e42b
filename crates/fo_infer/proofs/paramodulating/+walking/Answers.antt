use Rattle.std.proofs.Common.{◌≡◌, ◌++◌, ◌∷◌, [], map, sum, sym, ap, subst, ◌∙◌, refl, arith, slice_get, Some}
use Rattle.std.proofs.lemmas.List.{take_all}
use Rattle.fo_terms.specs.Weight.{size_of}
use Rattle.fo_infer.specs.Paths.{at_atom_path, paths_of, behind_places}
use Rattle.fo_infer.specs.Inferences.{PairGives}
use Rattle.fo_infer.specs.declared.made.Rule.TheVariants.{Para}
use Rattle.fo_infer.specs.inner.Adding.{Answered, Adds}
use Rattle.fo_infer.specs.inner.Places.{position_of, rules_behind}
use Rattle.fo_infer.specs.inner.Findings.{given_by, all_made}
use Rattle.fo_infer.proofs.Listing.{adds_start}
use Rattle.fo_infer.proofs.Paramodulants.{deeper, walk_var, walk_fun, walk_more, part_size, fun_size, pop_back, got}
use Rattle.fo_infer.proofs.paramodulating.+walking.Goals as goal

pub walk-walk_all-requires : goal.walk-walk_all-requires
walk-walk_all-requires t c =
    let size = fun_size c.in-Fun.field-0 c.in-Fun.args c.args.t.now c.in-Fun.is in
    let lent : sum (map size_of c.as_slice-in-Fun.result.now) ≡ sum (map size_of c.in-Fun.args) = ap (λ ts. sum (map size_of ts)) c.as_slice-in-Fun.ensures in (
      omega (arith, c.decreases),
      (
        c.requires.source,
        (
          c.requires.place,
          (
            c.requires.literal,
            (
              c.requires.eligible,
              λ k u h. deeper c.args.path.now k c.in-Fun.field-0 c.args.into.now.atom c.args.t.now u c.in-Fun.args c.in-Fun.is c.requires.subterm (sym (ap (λ ts. slice_get ts k) c.as_slice-in-Fun.ensures) ∙ h),
            ),
          ),
        ),
      ),
    )

pub walk-returns-in-Var : goal.walk-returns-in-Var
walk-returns-in-Var t c =
    let from = c.args.from.now in
    record {
      path = refl;
      adds = walk_var (PairGives (position_of from.plain) from.p.now from.q.now) from.i from.swapped c.args.j c.args.path.now c.in-Var.field-0 c.args.t.now (given_by from.p.now from.apart.now (Para from.i from.swapped c.args.j c.args.path.now) c.in_ok-found.found) (all_made from.p.now from.apart.now c.args.out.now) (all_made from.p.now from.apart.now c.add_at.new.out) c.in-Var.is
          (c.in_ok-add_at.ensures from.p.now from.apart.now) (subst (λ l. Answered (PairGives (position_of from.plain) from.p.now from.q.now (Para from.i from.swapped c.args.j l)) (given_by from.p.now from.apart.now (Para from.i from.swapped c.args.j l) c.in_ok-found.found)) c.as_slice.ensures c.in_ok-found.ensures);
    }

pub walk-returns-in_ok-walk_all-in-Fun : goal.walk-returns-in_ok-walk_all-in-Fun
walk-returns-in_ok-walk_all-in-Fun t c =
    let from = c.args.from.now in
    let lent : map paths_of c.as_slice-in-Fun.result.now ≡ map paths_of c.in-Fun.args = ap (map paths_of) c.as_slice-in-Fun.ensures in
    record {
      path = c.in_ok-walk_all-in-Fun.ensures.path;
      adds = walk_fun (PairGives (position_of from.plain) from.p.now from.q.now) from.i from.swapped c.args.j c.args.path.now c.in-Fun.field-0 c.in-Fun.args c.args.t.now (given_by from.p.now from.apart.now (Para from.i from.swapped c.args.j c.args.path.now) c.in_ok-found.found) (all_made from.p.now from.apart.now c.args.out.now) (all_made from.p.now from.apart.now c.add_at.new.out)
          (all_made from.p.now from.apart.now c.walk_all.new.out) c.in-Fun.is (c.in_ok-add_at.ensures from.p.now from.apart.now) (subst (λ l. Answered (PairGives (position_of from.plain) from.p.now from.q.now (Para from.i from.swapped c.args.j l)) (given_by from.p.now from.apart.now (Para from.i from.swapped c.args.j l) c.in_ok-found.found)) c.as_slice.ensures c.in_ok-found.ensures)
          (subst (λ ls. Adds (PairGives (position_of from.plain) from.p.now from.q.now) (rules_behind from.i from.swapped c.args.j c.args.path.now (behind_places 0 ls)) (all_made from.p.now from.apart.now c.add_at.new.out) (all_made from.p.now from.apart.now c.walk_all.new.out)) lent c.in_ok-walk_all-in-Fun.ensures.adds);
    }

pub walk_all-loop-k-init : goal.walk_all-loop-k-init
walk_all-loop-k-init t c = record {
  path = refl;
  adds = adds_start (PairGives (position_of c.args.from.now.plain) c.args.from.now.p.now c.args.from.now.q.now) (all_made c.args.from.now.p.now c.args.from.now.apart.now c.args.out.now);
}

pub walk_all-walk-requires : goal.walk_all-walk-requires
walk_all-walk-requires t c =
    let part = part_size c.args.terms.now c.loop-k.k c.index-terms-k.result c.loop-k-test.true c.index-terms-k.is in
    let here : c.push.new.self ≡ c.args.path.now ++ c.loop-k.k ∷ [] = c.in_ok-push.ensures.ok ∙ ap (λ l. l ++ c.loop-k.k ∷ []) c.loop-k.invariant.path in (
      omega (arith, c.decreases),
      (
        c.requires.source,
        (
          c.requires.place,
          (
            c.requires.literal,
            (
              c.requires.eligible,
              subst (λ l. at_atom_path l c.args.into.now.atom ≡ Some c.index-terms-k.result) (sym here)
                  (c.requires.subterms c.loop-k.k c.index-terms-k.result (got c.args.terms.now c.loop-k.k c.index-terms-k.result c.loop-k-test.true c.index-terms-k.is)),
            ),
          ),
        ),
      ),
    )

pub walk_all-loop-k-preserved : goal.walk_all-loop-k-preserved
walk_all-loop-k-preserved t c =
    let from = c.args.from.now in
    let gives = PairGives (position_of from.plain) from.p.now from.q.now in
    let here : c.push.new.self ≡ c.args.path.now ++ c.loop-k.k ∷ [] = c.in_ok-push.ensures.ok ∙ ap (λ l. l ++ c.loop-k.k ∷ []) c.loop-k.invariant.path in
    record {
      path = pop_back c.pop.result c.walk.new.path c.pop.new.self c.args.path.now c.loop-k.k c.pop.ensures (c.in_ok-walk.ensures.path ∙ here);
      adds = walk_more gives from.i from.swapped c.args.j c.args.path.now c.args.terms.now c.loop-k.k c.index-terms-k.result (all_made from.p.now from.apart.now c.args.out.now) (all_made from.p.now from.apart.now c.loop-k.out) (all_made from.p.now from.apart.now c.walk.new.out) c.loop-k-test.true c.index-terms-k.is
          c.loop-k.invariant.adds (subst (λ l. Adds gives (rules_behind from.i from.swapped c.args.j l (paths_of c.index-terms-k.result)) (all_made from.p.now from.apart.now c.loop-k.out) (all_made from.p.now from.apart.now c.walk.new.out)) here c.in_ok-walk.ensures.adds);
    }

pub walk_all-returns : goal.walk_all-returns
walk_all-returns t c =
    let from = c.args.from.now in
    record {
      path = c.loop-k.invariant.path;
      adds = subst (λ ts. Adds (PairGives (position_of from.plain) from.p.now from.q.now) (rules_behind from.i from.swapped c.args.j c.args.path.now (behind_places 0 (map paths_of ts))) (all_made from.p.now from.apart.now c.args.out.now) (all_made from.p.now from.apart.now c.loop-k.out))
          (take_all c.loop-k.k c.args.terms.now c.loop-k-test.false) c.loop-k.invariant.adds;
    }
