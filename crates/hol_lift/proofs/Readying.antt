-- A line whose parents have theorems gets one.
use Rattle.std.proofs.Common.{◌≡◌, ℕ, zero, suc, ◌<◌, List, [], ◌∷◌, map, length, Option, Some, slice_get, refl, sym, ap, subst, ◌∙◌, inl, inr}
use Rattle.fo_terms.specs.declared.literal.Literal.{Literal}
use Rattle.fo_terms.specs.declared.clause.Clause.{Clause}
use Rattle.fo_terms.specs.Normal.{normal_of}
use Rattle.fo_infer.specs.declared.made.Rule.{Rule}
use Rattle.fo_infer.specs.declared.refutation.Line.{Line}
use Rattle.fo_infer.specs.declared.refutation.Origin.TheVariants.{Input, Alone, Pair}
use Rattle.fo_infer.specs.Inferences.{AloneGives, PairGives, tagged_position}
use Rattle.fo_infer.specs.Lines.{Follows, FollowsInput}
use Rattle.tagged_terms.specs.Readings.{Signs}
use Rattle.tagged_lines.specs.TypedLiterals.{IsIn}
use Rattle.hyp_sets.specs.Sets.{Among}
use Rattle.kernel_rules.specs.declared.step.ThmId.{ThmId}
use Rattle.kernel_rules.specs.Connectives.{falsum}
use Rattle.hol_kernel.specs.Logs.{Logged, IsThm, thm}
use Rattle.hol_kernel.specs.Growth.{Extends}
use Rattle.hol_kernel.proofs.Growing.{thm_stays}
use Rattle.hol_clauses.specs.Literals.{allowed}
use Rattle.clause_instances.specs.Theorems.{clause_of, Lands}
use Rattle.hol_lift.specs.inner.Typed.{Joins}
use Rattle.hol_lift.specs.Refutations.{IsTaggedClause}
use Rattle.hol_lift.specs.inner.Lifting.{IsLifted, parents, LiftedAt, IsReady}
use Rattle.hol_lift.proofs.Members.{got_within}
use Rattle.hol_lift.proofs.PairsJoin.{concl_stays}

some_same : {X : Type 0} (x y : X) → Some x ≡ Some y → x ≡ y
some_same x y h = cc

one_at : {X : Type 0} (xs : List X) (i : ℕ) (x y : X) → slice_get xs i ≡ Some x → slice_get xs i ≡ Some y → x ≡ y
one_at xs i x y h k = some_same x y (sym h ∙ k)

-- an item of the mapped list
clause_at : (lines : List Line) (i : ℕ) (l : Line) (c : Clause) → slice_get lines i ≡ Some l → slice_get (map (λ l. l.clause) lines) i ≡ Some c → c ≡ l.clause
clause_at [] i l c h k = absurd cc
clause_at (m ∷ lines) zero l c h k = sym (some_same m.clause c k) ∙ ap (λ n. n.clause) (some_same m l h)
clause_at (m ∷ lines) (suc i) l c h k = clause_at lines i l c h k

module _ (start log new : Logged) (signs : Signs) (clauses : List Clause) (thms : List ThmId) where
  pub lifted_by : (p c : List Literal) (t r : ℕ) → IsLifted start log signs clauses thms p t → Lands log new t (clause_of signs p) r (clause_of signs c) → IsLifted start new signs clauses thms c r
  lifted_by p c t r l g = record { is_thm = g.is_thm; concl = g.concl; among = λ base free over. g.lifts base free (l.among base free over) }

  pub lifted_both : (p q c : List Literal) (left right r : ℕ) → IsLifted start log signs clauses thms p left → IsLifted start log signs clauses thms q right → Joins log new left (clause_of signs p) right (clause_of signs q) r (clause_of signs c)
      → IsLifted start new signs clauses thms c r
  lifted_both p q c left right r l m g = record { is_thm = g.is_thm; concl = g.concl; among = λ base free over. g.lifts base free (l.among base free over) (m.among base free over) }

pub lifted_on : (start log new : Logged) (signs : Signs) (clauses : List Clause) (thms : List ThmId) (c : List Literal) (r : ℕ) → Extends log new → IsLifted start log signs clauses thms c r → IsLifted start new signs clauses thms c r
lifted_on start log new signs clauses thms c r kept l = record {
  is_thm = thm_stays log new r kept l.is_thm;
  concl = concl_stays log new r kept l.is_thm l.concl;
  among = λ base free over. subst (λ q. Among q.hyps (allowed base (clause_of signs c))) (sym (kept.earlier r l.is_thm)) (l.among base free over);
}

module _ (start log : Logged) (signs : Signs) (clauses : List Clause) (thms : List ThmId) (lines : List Line) (made : List (Option ThmId)) (line : Line) (rd : IsReady start log signs clauses thms lines made line) where
  abbrev Lifted : List Literal → ℕ → Type 0
  Lifted c r = IsLifted start log signs clauses thms c r

  -- ---- inputs

  module _ (n : ℕ) (is : line.origin ≡ Input n) where
    input_follows : FollowsInput clauses n line.clause
    input_follows = subst (λ o. Follows tagged_position clauses (map (λ l. l.clause) lines) o line.clause) is rd.follows

    pub input_within : n < length clauses
    input_within = got_within clauses n input_follows.input input_follows.input_is

    pub thms_within : n < length thms
    thms_within = let h = rd.inputs.theorem n input_follows.input input_follows.input_is in got_within thms n h.0 h.1

    module _ (p : Clause) (t : ThmId) (got : slice_get clauses n ≡ Some p) (own : slice_get thms n ≡ Some t) where
      pub input_tagged : IsTaggedClause signs p.literals
      input_tagged = rd.inputs.tagged n p got

      theorem_is : IsThm start t.0 × ((thm start t.0).concl ≡ falsum)
      theorem_is = let h = rd.inputs.theorem n p got in subst (λ z. IsThm start z.0 × ((thm start z.0).concl ≡ falsum)) (one_at thms n h.0 t h.1 own) (h.2, h.3)

      pub input_thm : IsThm log t.0
      input_thm = thm_stays start log t.0 rd.kept theorem_is.0

      pub input_false : (thm log t.0).concl ≡ falsum
      input_false = concl_stays start log t.0 rd.kept theorem_is.0 theorem_is.1

      input_lifted : Lifted p.literals t.0
      input_lifted = record {
        is_thm = input_thm;
        concl = input_false;
        among = λ base free over. subst (λ q. Among q.hyps (allowed base (clause_of signs p.literals))) (sym (rd.kept.earlier t.0 theorem_is.0)) (over n p t got own);
      }

      pub input_gives : (new : Logged) (r : ℕ) → Lands log new t.0 (clause_of signs p.literals) r (clause_of signs (normal_of p.literals)) × IsTaggedClause signs (normal_of p.literals)
          → IsLifted start new signs clauses thms line.clause.literals r × IsTaggedClause signs line.clause.literals
      input_gives new r both =
          let g = both.0 in
          let same : normal_of p.literals ≡ line.clause.literals = ap (λ z. normal_of z.literals) (one_at clauses n p input_follows.input got input_follows.input_is) ∙ sym input_follows.normal in
          subst (λ z. IsLifted start new signs clauses thms z r × IsTaggedClause signs z) same (lifted_by start log new signs clauses thms p.literals (normal_of p.literals) t.0 r input_lifted g, both.1)

  -- ---- parents

  module _ (i : ℕ) (among : IsIn (parents line.origin) i) where
    at : LiftedAt start log signs clauses thms lines made i
    at = rd.parents i among

    pub parent_within : i < length lines
    parent_within = got_within lines i at.line at.line_is

    pub made_within : i < length made
    made_within = got_within made i (Some at.theorem) at.made_is

    pub parent_made : (t : ThmId) × (slice_get made i ≡ Some (Some t))
    parent_made = (at.theorem, at.made_is)

    pub parent_lifted : (l : Line) (t : ThmId) → slice_get lines i ≡ Some l → slice_get made i ≡ Some (Some t) → Lifted l.clause.literals t.0
    parent_lifted l t got own =
        subst (λ z. Lifted l.clause.literals z.0) (some_same at.theorem t (one_at made i (Some at.theorem) (Some t) at.made_is own))
        (subst (λ z. Lifted z.clause.literals at.theorem.0) (one_at lines i at.line l at.line_is got) at.lifted)

    pub parent_tagged : (l : Line) → slice_get lines i ≡ Some l → IsTaggedClause signs l.clause.literals
    parent_tagged l got = subst (λ z. IsTaggedClause signs z.clause.literals) (one_at lines i at.line l at.line_is got) at.tagged

  -- ---- one parent

  module _ (of : ℕ) (rule : Rule) (is : line.origin ≡ Alone of rule) where
    pub is_parent : IsIn (parents line.origin) of
    is_parent = subst (λ o. IsIn (parents o) of) (sym is) (inl refl)

    pub alone_gives : (l : Line) → slice_get lines of ≡ Some l → AloneGives l.clause rule line.clause
    alone_gives l got =
        let f = subst (λ o. Follows tagged_position clauses (map (λ l. l.clause) lines) o line.clause) is rd.follows in
        subst (λ z. AloneGives z rule line.clause) (clause_at lines of l f.parent got f.parent_is) f.gives

  -- ---- two parents

  module _ (left right : ℕ) (rule : Rule) (is : line.origin ≡ Pair left right rule) where
    pub is_left : IsIn (parents line.origin) left
    is_left = subst (λ o. IsIn (parents o) left) (sym is) (inl refl)

    pub is_right : IsIn (parents line.origin) right
    is_right = subst (λ o. IsIn (parents o) right) (sym is) (inr (inl refl))

    pub pair_gives : (l m : Line) → slice_get lines left ≡ Some l → slice_get lines right ≡ Some m → PairGives tagged_position l.clause m.clause rule line.clause
    pair_gives l m got gotten =
        let f = subst (λ o. Follows tagged_position clauses (map (λ l. l.clause) lines) o line.clause) is rd.follows in
        subst (λ z. PairGives tagged_position z m.clause rule line.clause) (clause_at lines left l f.left_parent got f.left_is)
        (subst (λ z. PairGives tagged_position f.left_parent z rule line.clause) (clause_at lines right m f.right_parent gotten f.right_is) f.gives)
