-- From clauses with theorems and a refutation of them, encoded, to a theorem, and from it to the goal.
use Rattle.std.proofs.Common.{◌≡◌, ℕ, zero, suc, ◌+◌, ◌-◌, ◌<◌, IsTrue, List, [], ◌∷◌, ◌++◌, map, length, slice_get, Some, refl, sym, ap, subst, ◌∙◌, arith, length-append}
use Rattle.std.specs.Prelude.{Option, Result, Ok, Err, IfOk}
use Rattle.std.specs.FinSet as set
use Rattle.hol_terms.specs.declared.sig.Sig.{Sig}
use Rattle.hol_terms.specs.declared.env.Env.{Env}
use Rattle.hol_terms.specs.declared.term.Term.{Term}
use Rattle.hol_terms.specs.declared.konst.Konst.TheVariants as konst
use Rattle.hol_terms.specs.declared.literal.TypedLiteral.{TypedLiteral}
use Rattle.hol_terms.specs.Formulas.{var_free}
use Rattle.hol_terms.proofs.Both.{and_true}
use Rattle.hol_terms.proofs.Equations.{var_free-con, var_free-app}
use Rattle.hol_terms.proofs.Formulas.{sentence_var_free}
use Rattle.hyp_sets.specs.Sets.{TermSet, only, Holds, Among}
use Rattle.hyp_sets.proofs.Members.{holds_only, holds_remove, empty_where_none}
use Rattle.kernel_rules.specs.declared.step.Step.{Step}
use Rattle.kernel_rules.specs.declared.step.ThmId.{ThmId}
use Rattle.kernel_rules.specs.declared.sequent.Sequent.{Sequent}
use Rattle.kernel_rules.specs.Connectives.{falsum, neg, constant}
use Rattle.kernel_rules.specs.Rules.{seq}
use Rattle.kernel_rules.specs.Derivations.{last_of}
use Rattle.hol_kernel.specs.Logs.{Logged, IsThm, thm, seq_at}
use Rattle.hol_kernel.specs.Growth.{Extends, Gives, Appends}
use Rattle.hol_kernel.proofs.Places.{get_at}
use Rattle.hol_clauses.specs.Literals.{allowed}
use Rattle.fo_terms.specs.declared.clause.Clause.{Clause}
use Rattle.fo_infer.specs.declared.refutation.Line.{Line}
use Rattle.fo_infer.specs.Inferences.{tagged_position}
use Rattle.fo_infer.specs.Lines.{Refutes as LinesRefute}
use Rattle.lambda_lift.specs.declared.table.Aux.{Aux}
use Rattle.lambda_lift.specs.Standing.{Each}
use Rattle.formula_clauses.specs.Walks.{Clauses}
use Rattle.fol_encode.specs.declared.sign.Sign.{Sign}
use Rattle.fol_encode.specs.Signs.{symbols_of}
use Rattle.fol_encode.specs.Occurring.{signs_for}
use Rattle.tagged_terms.specs.declared.symbol.Symbol.{Symbol}
use Rattle.tagged_terms.specs.Readings.{Signs, signs_of}
use Rattle.clause_instances.specs.Theorems.{clause_of, VarFree}
use Rattle.hol_clausify.specs.Sources.{IsSource, meaning}
use Rattle.hol_lift.specs.Refutations.{AreSignsOver, IsTaggedClause, AreInputs, AreOver, IsRefutation}
use Rattle.goal_search.specs.declared.listing.Listing.{Listing}
use Rattle.goal_search.specs.Inputs.{listed}
use Rattle.goal_search.specs.Encoded.{atoms, encoded_clause, encoded, signs_in, inputs}
use Rattle.tagged_inputs.specs.Encodings.{IsEncoding, AreEncodings}
use Rattle.tagged_inputs.proofs.Encodings.{are_encodings}
use Rattle.goal_proofs.specs.declared.sourcing.Sourced.{Sourced}
use Rattle.goal_proofs.specs.inner.Sourced.{HaveTheorems, AreSourced, Refutes}

-- ---- the inputs of the lifting
module _ (log : Logged) (base : TermSet) (table : List Aux) (signs : List Sign) where
  abbrev meanings : Signs
  meanings = signs_of (symbols_of table signs)

  -- a clause of the encoded ones with its theorem
  record Stood (thms : List ThmId) (n : ℕ) (c : Clause) : Type 0 where
    literals : List TypedLiteral
    theorem : ThmId
    encoding : IsEncoding table signs literals
    is : encoded_clause signs literals ≡ c
    there : slice_get thms n ≡ Some theorem
    source : IsSource log base table (record { literals = literals; thm = theorem })

  stood : (cs : Clauses) (ts : List ThmId) → HaveTheorems log base table cs ts → Each (IsEncoding table signs) cs → (n : ℕ) (c : Clause) → slice_get (encoded signs cs) n ≡ Some c → Stood ts n c
  stood [] ts have encodings n c e = absurd cc
  stood (ls ∷ cs) [] have encodings n c e = absurd have
  stood (ls ∷ cs) (t ∷ ts) have encodings zero c e = record { literals = ls; theorem = t; encoding = encodings zero ls refl; is = cc; there = refl; source = have.0 }
  stood (ls ∷ cs) (t ∷ ts) have encodings (suc n) c e =
      let rest = stood cs ts have.1 (λ i. encodings (suc i)) n c e in
      record { literals = rest.literals; theorem = rest.theorem; encoding = rest.encoding; is = rest.is; there = rest.there; source = rest.source }

  module _ (cs : Clauses) (ts : List ThmId) (have : HaveTheorems log base table cs ts) (encodings : Each (IsEncoding table signs) cs) where
    pub are_inputs : AreInputs log meanings (encoded signs cs) ts
    are_inputs = record {
      tagged = λ n c e. (let s = stood cs ts have encodings n c e in subst (λ (d : Clause). IsTaggedClause meanings d.literals) s.is s.encoding.tagged);
      theorem = λ n c e. (let s = stood cs ts have encodings n c e in (s.theorem, s.there, s.source.is_thm, s.source.concl));
    }

    pub are_over : AreOver log meanings (encoded signs cs) ts base
    are_over n c t e at =
        let s = stood cs ts have encodings n c e in
        let same : s.theorem ≡ t = (let p : Some s.theorem ≡ Some t = sym s.there ∙ at in cc) in
        let stands : map (meaning table) s.literals ≡ clause_of meanings c.literals = sym s.encoding.stands ∙ ap (λ (d : Clause). clause_of meanings d.literals) s.is in
        subst (λ (u : ThmId). Among (thm log u.0).hyps (allowed base (clause_of meanings c.literals))) same (subst (λ ls. Among (thm log s.theorem.0).hyps (allowed base ls)) stands s.source.hyps)

-- ---- the negated goal has no free variable
neg_var_free : (t : Term) → IsTrue (var_free t) → IsTrue (var_free (neg t))
neg_var_free t h = subst IsTrue (sym (var_free-app (constant konst.Not) t)) (and_true (var_free (constant konst.Not)) (var_free t) (var_free-con konst.Not) h)

base_var_free : (env : Env) → VarFree (only (neg env.goal))
base_var_free env x h = subst (λ t. IsTrue (var_free t)) (sym (holds_only (neg env.goal) x h)) (neg_var_free env.goal (sentence_var_free env.sig env.goal env.goal_is_sentence))

pub lifted_refutes : (log new : Logged) (signs : Signs) (clauses : List Clause) (thms : List ThmId) (r : ℕ) → Extends log new → AreOver log signs clauses thms (only (neg log.env.goal)) →
    IsRefutation log new signs clauses thms r → Refutes new r
lifted_refutes log new signs clauses thms r kept over is = record {
  is_thm = is.is_thm;
  concl = is.concl;
  hyps = subst (λ (e : Env). Among (thm new r).hyps (only (neg e.goal))) (sym kept.env) (is.among (only (neg log.env.goal)) (base_var_free log.env) over);
}

-- ---- the goal
none_left : (hyps : TermSet) (t : Term) → Among hyps (only t) → set.remove hyps t ≡ set.empty
none_left hyps t within = empty_where_none (set.remove hyps t) (λ x h. (let parts = holds_remove hyps t x h in parts.0 (holds_only t x (within x parts.1))))

pub ends_in_goal : (log new : Logged) (r th : ℕ) (s : Step) → Refutes log r → Extends log new → Appends log new s th →
    Gives new th (seq (set.remove (thm log r).hyps (neg log.env.goal)) log.env.goal) → last_of new.sequents ≡ Some (seq set.empty new.env.goal)
ends_in_goal log new r th s refutes kept appends gives =
    let last : length new.sequents - 1 ≡ th = omega (arith, appends.at, ap length appends.sequents.1.1, length-append log.sequents (appends.sequents.0 ∷ [])) in
    ap (slice_get new.sequents) last ∙ get_at new.sequents th gives.is_thm ∙ ap Some gives.is
    ∙ (λ i. Some (seq (none_left (thm log r).hyps (neg log.env.goal) refutes.hyps i) (sym kept.env i).goal))

-- ---- what `encode` makes of them
module _ (log : Logged) (s : Sourced) (have : AreSourced log s) (signs : List Sign) (symbols : List Symbol) (clauses : List Clause)
    (signs_are : signs ≡ signs_for log.env.sig s.listing.table (atoms s.listing.clauses)) (symbols_are : symbols ≡ symbols_of s.listing.table signs) (clauses_are : clauses ≡ encoded signs s.listing.clauses) where
  encodings : AreEncodings log.env.sig s.listing.table s.listing.clauses
  encodings = are_encodings log.env.sig s.listing.table s.listing.clauses log.env.has_bool have.alone have.typed

  meant : symbols ≡ symbols_of s.listing.table (signs_for log.env.sig s.listing.table (atoms s.listing.clauses))
  meant = symbols_are ∙ ap (symbols_of s.listing.table) signs_are

  told : clauses ≡ encoded (signs_for log.env.sig s.listing.table (atoms s.listing.clauses)) s.listing.clauses
  told = clauses_are ∙ ap (λ g. encoded g s.listing.clauses) signs_are

  pub made_signs : AreSignsOver log.env.sig (signs_of symbols)
  made_signs = subst (λ l. AreSignsOver log.env.sig (signs_of l)) (sym meant) encodings.signs

  pub made_inputs : AreInputs log (signs_of symbols) clauses s.thms
  made_inputs =
      subst (λ l. AreInputs log (signs_of l) clauses s.thms) (sym meant)
      (subst (λ cs. AreInputs log (signs_of (symbols_of s.listing.table (signs_for log.env.sig s.listing.table (atoms s.listing.clauses)))) cs s.thms) (sym told)
      (are_inputs log (only (neg log.env.goal)) s.listing.table (signs_for log.env.sig s.listing.table (atoms s.listing.clauses)) s.listing.clauses s.thms have.theorems encodings.clauses))

  pub made_over : AreOver log (signs_of symbols) clauses s.thms (only (neg log.env.goal))
  made_over =
      subst (λ l. AreOver log (signs_of l) clauses s.thms (only (neg log.env.goal))) (sym meant)
      (subst (λ cs. AreOver log (signs_of (symbols_of s.listing.table (signs_for log.env.sig s.listing.table (atoms s.listing.clauses)))) cs s.thms (only (neg log.env.goal))) (sym told)
      (are_over log (only (neg log.env.goal)) s.listing.table (signs_for log.env.sig s.listing.table (atoms s.listing.clauses)) s.listing.clauses s.thms have.theorems encodings.clauses))

  pub made_refutes : (lines : List Line) → LinesRefute tagged_position (encoded (signs_in log.env.sig s.listing) s.listing.clauses) lines → LinesRefute tagged_position clauses lines
  unfolding signs_in
  made_refutes lines h = subst (λ cs. LinesRefute tagged_position cs lines) (sym told) h

-- where the listed clauses are those of the facts and the goal, their encodings are the inputs
pub inputs_refute : (env now : Env) (facts : List ℕ) (l : Listing) (lines : List Line) → now ≡ env → l ≡ listed env facts → LinesRefute tagged_position (inputs env facts) lines →
    LinesRefute tagged_position (encoded (signs_in now.sig l) l.clauses) lines
unfolding inputs
inputs_refute env now facts l lines same is h =
    subst (λ (e : Env). LinesRefute tagged_position (encoded (signs_in e.sig l) l.clauses) lines) (sym same)
    (subst (λ (k : Listing). LinesRefute tagged_position (encoded (signs_in env.sig k) k.clauses) lines) (sym is) h)

pub if_ok_so : {T E : Type 0} (r : Result T E) (P : Type 0) → P → IfOk r (λ _. P)
if_ok_so (Ok x) P h = h
if_ok_so (Err e) P h = tt
