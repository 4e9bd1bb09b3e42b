-- What the calls for one shape of formula give, as refutations of the whole.
use Rattle.std.proofs.Common.{◌≡◌, ℕ, Bool, true, false, ap, subst, refl, sym, ◌∙◌, ◌⊎◌, inl, inr}
use Rattle.std.specs.Prelude.{Result, IfOk}
use Rattle.std.specs.FinSet as set
use Rattle.hol_terms.specs.declared.term.Term.{Term}
use Rattle.hyp_sets.specs.Sets.{TermSet, only, Among}
use Rattle.hyp_sets.proofs.Answered.{if_ok_map}
use Rattle.hyp_sets.proofs.Members.{among_trans, among_union, among_remove, in_left, in_right, none_among}
use Rattle.kernel_rules.specs.declared.step.ThmId.{ThmId}
use Rattle.kernel_rules.specs.Connectives.{falsum, neg}
use Rattle.kernel_rules.specs.Rules.{seq}
use Rattle.hol_kernel.specs.Logs.{Logged, IsThm, thm}
use Rattle.hol_kernel.specs.Growth.{Extends, Gives}
use Rattle.hol_refutations.specs.Laws.{beside}
use Rattle.hol_refutations.proofs.Landing.{part, parts, both, either, denial, rest}
use Rattle.hol_clausify.specs.inner.Refuting.{IsFalse, Lands, BothLand}

pub gives_false : (log : Logged) (r : ℕ) (g : TermSet) → Gives log r (seq g falsum) → IsFalse log r
gives_false log r g h = record { is_thm = h.is_thm; concl = ap (λ q. q.concl) h.is }

module _ {E : Type 0} (old new : Logged) (th : ℕ) (result : Result ThmId E) where
  -- from the part alone
  pub lands_one : (p w : Term) → IfOk result (λ r. Gives new r.0 (seq (set.union (only w) (set.remove (thm old th).hyps p)) falsum)) → IfOk result (λ r. Lands old new p th (only w) r.0)
  lands_one p w h =
      if_ok_map result (λ r. Gives new r.0 (seq (set.union (only w) (set.remove (thm old th).hyps p)) falsum)) (λ r. Lands old new p th (only w) r.0)
      (λ r g. record {
        refutes = gives_false new r.0 (set.union (only w) (set.remove (thm old th).hyps p)) g;
        lifts = λ base k. subst (λ q. Among q.hyps (beside w base)) (sym g.is) (part p w (thm old th).hyps base k);
      }) h

  -- from either of two parts
  pub lands_either : (p q w : Term) (a : Term) → a ≡ p ⊎ a ≡ q → IfOk result (λ r. Gives new r.0 (seq (set.union (only w) (set.remove (set.remove (thm old th).hyps q) p)) falsum)) → IfOk result (λ r. Lands old new a th (only w) r.0)
  lands_either p q w a which h =
      if_ok_map result (λ r. Gives new r.0 (seq (set.union (only w) (set.remove (set.remove (thm old th).hyps q) p)) falsum)) (λ r. Lands old new a th (only w) r.0)
      (λ r g. record {
        refutes = gives_false new r.0 (set.union (only w) (set.remove (set.remove (thm old th).hyps q) p)) g;
        lifts = λ base k. subst (λ z. Among z.hyps (beside w base)) (sym g.is)
            (either p q w (thm old th).hyps base
            (elim which [ inl e ↦ inl (subst (λ z. Among (thm old th).hyps (beside z base)) e k) | inr e ↦ inr (subst (λ z. Among (thm old th).hyps (beside z base)) e k) ]));
      }) h

  -- what is left where the conclusion of an earlier theorem is cut out
  pub lands_cut : (a : ℕ) → (thm old th).concl ≡ falsum →
      IfOk result (λ r. Gives new r.0 (seq (set.union (thm old a).hyps (set.remove (thm old th).hyps (thm old a).concl)) (thm old th).concl)) → IfOk result (λ r. Lands old new (thm old a).concl th (thm old a).hyps r.0)
  lands_cut a false_is h =
      let s = thm old a in
      let g0 = set.union s.hyps (set.remove (thm old th).hyps s.concl) in
      if_ok_map result (λ r. Gives new r.0 (seq g0 (thm old th).concl)) (λ r. Lands old new s.concl th s.hyps r.0)
      (λ r g. record {
        refutes = gives_false new r.0 g0 (subst (λ c. Gives new r.0 (seq g0 c)) false_is g);
        lifts = λ base k. subst (λ q. Among q.hyps (set.union s.hyps base)) (sym g.is)
            (among_union s.hyps (set.remove (thm old th).hyps s.concl) (set.union s.hyps base) (in_left s.hyps base)
            (among_trans (set.remove (thm old th).hyps s.concl) base (set.union s.hyps base) (rest s.concl (thm old th).hyps base k) (in_right s.hyps base)));
      }) h

module _ {E : Type 0} (old new : Logged) (left right : ℕ) (result : Result ThmId E) where
  pub lands_two : (p q w : Term) → IfOk result (λ r. Gives new r.0 (seq (set.union (set.union (only w) (set.remove (thm old left).hyps p)) (set.remove (thm old right).hyps q)) falsum)) →
      IfOk result (λ r. BothLand old new p left q right (only w) r.0)
  lands_two p q w h =
      let g0 = set.union (set.union (only w) (set.remove (thm old left).hyps p)) (set.remove (thm old right).hyps q) in
      if_ok_map result (λ r. Gives new r.0 (seq g0 falsum)) (λ r. BothLand old new p left q right (only w) r.0)
      (λ r g. record {
        refutes = gives_false new r.0 g0 g;
        lifts = λ base k m. subst (λ z. Among z.hyps (beside w base)) (sym g.is) (parts p q w (thm old left).hyps (thm old right).hyps base k m);
      }) h

  pub lands_both : (p q w : Term) → IfOk result (λ r. Gives new r.0 (seq (set.union (only w) (set.union (set.remove (thm old left).hyps p) (set.remove (thm old right).hyps q))) falsum)) →
      IfOk result (λ r. BothLand old new p left q right (only w) r.0)
  lands_both p q w h =
      let g0 = set.union (only w) (set.union (set.remove (thm old left).hyps p) (set.remove (thm old right).hyps q)) in
      if_ok_map result (λ r. Gives new r.0 (seq g0 falsum)) (λ r. BothLand old new p left q right (only w) r.0)
      (λ r g. record {
        refutes = gives_false new r.0 g0 g;
        lifts = λ base k m. subst (λ z. Among z.hyps (beside w base)) (sym g.is) (both p q w (thm old left).hyps (thm old right).hyps base k m);
      }) h

  -- a denied equation, from `a` and `b`
  pub lands_equal : (a b w : Term) →
      IfOk result (λ r. Gives new r.0 (seq (set.union (only w) (set.union (set.remove (set.remove (thm old left).hyps (neg b)) a) (set.remove (set.remove (thm old right).hyps (neg a)) b))) falsum)) →
      IfOk result (λ r. BothLand old new a left b right (only w) r.0)
  lands_equal a b w h =
      let g0 = set.union (only w) (set.union (set.remove (set.remove (thm old left).hyps (neg b)) a) (set.remove (set.remove (thm old right).hyps (neg a)) b)) in
      if_ok_map result (λ r. Gives new r.0 (seq g0 falsum)) (λ r. BothLand old new a left b right (only w) r.0)
      (λ r g. record {
        refutes = gives_false new r.0 g0 g;
        lifts = λ base k m. subst (λ z. Among z.hyps (beside w base)) (sym g.is) (denial a (neg b) b (neg a) w (thm old left).hyps (thm old right).hyps base (inl k) (inl m));
      }) h

  -- the same from `~a` and `~b`, the theorems the other way round
  pub lands_unequal : (a b w : Term) →
      IfOk result (λ r. Gives new r.0 (seq (set.union (only w) (set.union (set.remove (set.remove (thm old right).hyps (neg b)) a) (set.remove (set.remove (thm old left).hyps (neg a)) b))) falsum)) →
      IfOk result (λ r. BothLand old new (neg a) left (neg b) right (only w) r.0)
  lands_unequal a b w h =
      let g0 = set.union (only w) (set.union (set.remove (set.remove (thm old right).hyps (neg b)) a) (set.remove (set.remove (thm old left).hyps (neg a)) b)) in
      if_ok_map result (λ r. Gives new r.0 (seq g0 falsum)) (λ r. BothLand old new (neg a) left (neg b) right (only w) r.0)
      (λ r g. record {
        refutes = gives_false new r.0 g0 g;
        lifts = λ base k m. subst (λ z. Among z.hyps (beside w base)) (sym g.is) (denial a (neg b) b (neg a) w (thm old right).hyps (thm old left).hyps base (inr m) (inr k));
      }) h
