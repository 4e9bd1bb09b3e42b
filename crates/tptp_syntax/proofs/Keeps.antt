-- Each token that the walk takes keeps what has come.
use Rattle.std.proofs.Common.{◌≡◌, ℕ, ◌+◌, ◌-◌, ◌||◌, ◌&&◌, not, Bool, true, false, List, [], ◌∷◌, ◌++◌, length, Option, Some, None, refl, sym, ap, subst, ◌∙◌, arith, if◌then◌else◌, append_assoc, append-nil, eqb}
use Rattle.std.proofs.lemmas.Bool.{eqb-true}
use Rattle.fo_terms.specs.declared.term.FoTerm.{FoTerm, Var, Fun}
use Rattle.fo_terms.specs.declared.atom.Atom.TheVariants.{Holds}
use Rattle.fo_terms.specs.declared.formula.FoFormula.{FoFormula}
use Rattle.fo_terms.specs.declared.formula.FoFormula.TheVariants as formula
use Rattle.tptp_syntax.specs.declared.claim.Claimed.{Claimed}
use Rattle.tptp_syntax.specs.declared.tokens.Quant.{Quant}
use Rattle.tptp_syntax.specs.declared.tokens.Chain.{Chain}
use Rattle.tptp_syntax.specs.declared.tokens.Pair.{Pair}
use Rattle.tptp_syntax.specs.declared.tokens.Tok.{Tok}
use Rattle.tptp_syntax.specs.declared.tokens.Tok.TheVariants as tok
use Rattle.tptp_syntax.specs.declared.sorts.Kind.{Kind}
use Rattle.tptp_syntax.specs.declared.sorts.Kind.TheVariants as kind
use Rattle.tptp_syntax.specs.declared.sorts.Mode.{Mode}
use Rattle.tptp_syntax.specs.declared.sorts.Mode.TheVariants as mode
use Rattle.tptp_syntax.specs.declared.sorts.Skip.{Skip}
use Rattle.tptp_syntax.specs.declared.sorts.Skip.TheVariants as skip
use Rattle.tptp_syntax.specs.declared.frames.Frame.{Frame}
use Rattle.tptp_syntax.specs.declared.frames.Frame.TheVariants as frame
use Rattle.tptp_syntax.specs.declared.reader.Spot.{Spot}
use Rattle.tptp_syntax.specs.declared.reader.Spot.TheVariants as spot
use Rattle.tptp_syntax.specs.declared.reader.Reader.{Reader}
use Rattle.tptp_syntax.specs.Grammar as g
use Rattle.tptp_syntax.specs.Grammar.{Placed, at, Table, bind, outside, with_symbol, with_variable, equation, join, couple, quantified, is_symbol, is_clausal, first_kind, negated, may_equal, goes_on, may_join, Term, IsTerm, Start, Bound, Formula, Rest, IsFormula, IsSkipped, may_end, in_part, gone_on, may_divide, is_filler, is_conjecture, may_stand, head_word, stated, Listed, IsList}
use Rattle.tptp_syntax.specs.inner.Machine as machine
use Rattle.tptp_syntax.specs.inner.Machine.{inner, is_outset, is_empty, is_positive, is_positive_kind, round_mode, finished, Stepped, to, open_behind, level_of, settle, settle_unit, Settled, behind, behind_settled, have, close_in, group_end, grouped, same_bracket}
use Rattle.tptp_syntax.proofs.Runs.{set}
use Rattle.tptp_syntax.proofs.CompleteTerms.{back}
use Rattle.tptp_syntax.proofs.CompleteFormulas.{Fits, is_place, first_fits, first_clausal, join_fits, negated_clausal, formula_keeps}
use Rattle.tptp_syntax.proofs.CompleteLists.{opened}
use Rattle.tptp_syntax.proofs.Come.{AtTop, AtSkip, AtEnd, After, AfterAtom, AfterTerm, AtPart, AtClause, AtWant, table, AtTerm, AtNamed, AtSquare, AtVariable, AtVariableEnd, AtColon, Bare, AtFormula, AtRole, AtName, Come, Keeps}

-- ---- the same tokens in other groups

push : (p : List Placed) (x : Placed) (q : List Placed) → p ++ (x ∷ q) ≡ (p ++ x ∷ []) ++ q
push p x q = sym (append_assoc p (x ∷ []) q)

split : (p : List Placed) (x : Placed) (q r : List Placed) → p ++ (x ∷ q ++ r) ≡ ((p ++ x ∷ []) ++ q) ++ r
split p x q r = push p x (q ++ r) ∙ sym (append_assoc (p ++ x ∷ []) q r)

round_split : (p : List Placed) (x : Placed) (q r : List Placed) (y : Placed) → p ++ (x ∷ (q ++ r) ++ y ∷ []) ≡ ((p ++ x ∷ []) ++ q) ++ (r ++ y ∷ [])
round_split p x q r y = simp append_assoc

clause_split : (p : List Placed) (x : Placed) (q : List Placed) (y : Placed) → p ++ (x ∷ q ++ y ∷ []) ≡ ((p ++ x ∷ []) ++ q) ++ y ∷ []
clause_split p x q y = simp append_assoc

-- what may end without more
is_settled : Mode → List Frame → Bool
is_settled mode.Fresh (frame.Not c ∷ k) = false
is_settled mode.Fresh (frame.Bind q ∷ k) = false
is_settled mode.Fresh (frame.Join o b ∷ k) = false
is_settled mode.Fresh (frame.Couple c b ∷ k) = false
is_settled _ _ = true

module _ (W : List Placed → Listed → Type 0) where
  after_at : (r : Reader) (m : Mode) (a : FoFormula) (k : List Frame) (t : Table) (l : ℕ) {p q : List Placed} → p ≡ q → After W r m a k t l p → After W r m a k t l q
  after_at r m a k t l e h = subst (λ z. After W r m a k t l z) e h

  term_at : (r : Reader) (u : FoTerm) (k : List Frame) (t : Table) (l : ℕ) {p q : List Placed} → p ≡ q → AfterTerm W r u k t l p → AfterTerm W r u k t l q
  term_at r u k t l e h = subst (λ z. AfterTerm W r u k t l z) e h

  skip_at : (r : Reader) (l : ℕ) (s : Skip) (k : List Frame) {p q : List Placed} → p ≡ q → AtSkip W r l s k p → AtSkip W r l s k q
  skip_at r l s k e h = subst (λ z. AtSkip W r l s k z) e h

  top_at : (r : Reader) {p q : List Placed} → p ≡ q → AtTop W r p → AtTop W r q
  top_at r e h = subst (λ z. AtTop W r z) e h

  -- ---- what a part is taken by

  settled_after : (r : Reader) (k : List Frame) (a : FoFormula) (t : Table) (l : ℕ) (p : List Placed) → After W r mode.Fresh a k t l p →
      let s = settle_unit a k t.variables in After W r s.mode s.formula s.frames (record { symbols = t.symbols; variables = s.scope }) l p
  settled_after r [] a t l p h = h
  settled_after r (frame.Not c ∷ k) a t l p h = settled_after r k (formula.Not a) t l p h
  settled_after r (frame.Bind q ∷ k) a t l p h = settled_after r k (quantified q (length (inner t.variables)) a) (record { symbols = t.symbols; variables = inner t.variables }) l p h
  settled_after r (frame.Join o b ∷ k) a t l p h = h
  settled_after r (frame.Couple c b ∷ k) a t l p h = h
  settled_after r (frame.Round ∷ k) a t l p h = h
  settled_after r (frame.Args f ts ∷ k) a t l p h = h
  settled_after r (frame.Side b u ∷ k) a t l p h = h
  settled_after r (frame.Group b s ∷ k) a t l p h = h

  settled_is : (k : List Frame) (a : FoFormula) (vs : List ℕ) → let s = settle_unit a k vs in is_settled s.mode s.frames ≡ true
  unfolding is_settled
  settled_is [] a vs = refl
  settled_is (frame.Not c ∷ k) a vs = settled_is k (formula.Not a) vs
  settled_is (frame.Bind q ∷ k) a vs = settled_is k (quantified q (length (inner vs)) a) (inner vs)
  settled_is (frame.Join o b ∷ k) a vs = refl
  settled_is (frame.Couple c b ∷ k) a vs = refl
  settled_is (frame.Round ∷ k) a vs = refl
  settled_is (frame.Args f ts ∷ k) a vs = refl
  settled_is (frame.Side b u ∷ k) a vs = refl
  settled_is (frame.Group b s ∷ k) a vs = refl

  -- ---- a part goes on

  -- with one of a chain
  chained_to : (r : Reader) (m : Mode) (a : FoFormula) (k : List Frame) (t : Table) (l : ℕ) (p : List Placed) (o : Chain) (c : FoFormula) (t' : Table) (pre : List Placed) →
      is_settled m k ≡ true → goes_on m o ≡ true → After W r m a k t l p →
      ((q : List Placed) (d : FoFormula) (t'' : Table) → IsFormula l (Rest r.clausal (mode.Chained o) c) t' q d t'' → IsFormula l (Rest r.clausal m a) t (pre ++ q) d t'') →
      After W r (mode.Chained o) c k t' l (p ++ pre)
  unfolding is_settled
  chained_to r mode.Fresh a [] t l p o c t' pre s on h f = λ q d t'' e. skip_at (opened (finished (set r t'' []) d) []) l skip.Behind [] (sym (append_assoc p pre q)) (h (pre ++ q) d t'' (f q d t'' e))
  chained_to r (mode.Chained b) a [] t l p o c t' pre s on h f = λ q d t'' e. skip_at (opened (finished (set r t'' []) d) []) l skip.Behind [] (sym (append_assoc p pre q)) (h (pre ++ q) d t'' (f q d t'' e))
  chained_to r mode.Fresh a (frame.Round ∷ k) t l p o c t' pre s on h f = λ q d t'' e.
      after_at r (round_mode r.clausal) d k t'' (l - 1) (ap (λ z. p ++ z) (append_assoc pre q (at 0 (tok.Close false) ∷ [])) ∙ sym (append_assoc p pre (q ++ at 0 (tok.Close false) ∷ []))) (h (pre ++ q) d t'' (f q d t'' e))
  chained_to r (mode.Chained b) a (frame.Round ∷ k) t l p o c t' pre s on h f = λ q d t'' e.
      after_at r (round_mode r.clausal) d k t'' (l - 1) (ap (λ z. p ++ z) (append_assoc pre q (at 0 (tok.Close false) ∷ [])) ∙ sym (append_assoc p pre (q ++ at 0 (tok.Close false) ∷ []))) (h (pre ++ q) d t'' (f q d t'' e))
  chained_to r mode.Ended a k t l p o c t' pre s on h f = cc
  chained_to r mode.Fresh a (frame.Not b ∷ k) t l p o c t' pre s on h f = cc
  chained_to r mode.Fresh a (frame.Bind q ∷ k) t l p o c t' pre s on h f = cc
  chained_to r mode.Fresh a (frame.Join x b ∷ k) t l p o c t' pre s on h f = cc
  chained_to r mode.Fresh a (frame.Couple x b ∷ k) t l p o c t' pre s on h f = cc
  chained_to r m a (_ ∷ k) t l p o c t' pre s on h f = absurd h

  -- with the second of a pair
  ended_to : (r : Reader) (a : FoFormula) (k : List Frame) (t : Table) (l : ℕ) (p : List Placed) (c : FoFormula) (t' : Table) (pre : List Placed) →
      is_settled mode.Fresh k ≡ true → After W r mode.Fresh a k t l p → IsFormula l (Rest r.clausal mode.Fresh a) t pre c t' → After W r mode.Ended c k t' l (p ++ pre)
  unfolding is_settled
  ended_to r a [] t l p c t' pre s h d = h pre c t' d
  ended_to r a (frame.Round ∷ k) t l p c t' pre s h d = after_at r (round_mode r.clausal) c k t' (l - 1) (sym (append_assoc p pre (at 0 (tok.Close false) ∷ []))) (h pre c t' d)
  ended_to r a (frame.Not b ∷ k) t l p c t' pre s h d = cc
  ended_to r a (frame.Bind q ∷ k) t l p c t' pre s h d = cc
  ended_to r a (frame.Join x b ∷ k) t l p c t' pre s h d = cc
  ended_to r a (frame.Couple x b ∷ k) t l p c t' pre s h d = cc
  ended_to r a (_ ∷ k) t l p c t' pre s h d = absurd h

  -- not at all
  whole_end : (r : Reader) (m : Mode) (a : FoFormula) (t : Table) (l : ℕ) (p : List Placed) → After W r m a [] t l p → AtEnd W r a t l p
  whole_end r mode.Ended a t l p h = h
  whole_end r mode.Fresh a t l p h = skip_at (opened (finished (set r t []) a) []) l skip.Behind [] (append-nil p) (h [] a t g.nothing)
  whole_end r (mode.Chained o) a t l p h = skip_at (opened (finished (set r t []) a) []) l skip.Behind [] (append-nil p) (h [] a t g.nothing)

  round_end : (r : Reader) (m : Mode) (a : FoFormula) (k : List Frame) (t : Table) (l : ℕ) (p : List Placed) → After W r m a (frame.Round ∷ k) t l p →
      After W r (round_mode r.clausal) a k t (l - 1) (p ++ at 0 (tok.Close false) ∷ [])
  round_end r mode.Ended a k t l p h = h
  round_end r mode.Fresh a k t l p h = h [] a t g.nothing
  round_end r (mode.Chained o) a k t l p h = h [] a t g.nothing

  -- ---- the tokens behind a part

  close_keeps : (r : Reader) (m : Mode) (a : FoFormula) (k : List Frame) (t : Table) (l : ℕ) (p : List Placed) → is_settled m k ≡ true → After W r m a k t l p →
      Keeps W l p (tok.Close false) (close_in (set r t k) a k)
  unfolding is_settled
  close_keeps r m a [] t l p s h =
      let e = whole_end r m a t l p h in
      let one = e.0 in
      let none : l - 1 ≡ 0 = omega arith in
      (record { frames = refl; scope = refl }, none, top_at (opened (finished (set r t []) a) []) (push p (at 0 (tok.Close false)) (at 0 tok.Dot ∷ [])) (e.1 [] (g.end refl)))
  close_keeps r m a (frame.Round ∷ k) t l p s h = round_end r m a k t l p h
  close_keeps r m a (frame.Args f ts ∷ k) t l p s h = tt
  close_keeps r m a (frame.Side b u ∷ k) t l p s h = tt
  close_keeps r m a (frame.Not c ∷ k) t l p s h = tt
  close_keeps r m a (frame.Bind q ∷ k) t l p s h = tt
  close_keeps r m a (frame.Join o b ∷ k) t l p s h = tt
  close_keeps r m a (frame.Couple c b ∷ k) t l p s h = tt
  close_keeps r m a (frame.Group b next ∷ k) t l p s h = tt

  divide_keeps : (r : Reader) (m : Mode) (a : FoFormula) (k : List Frame) (t : Table) (l : ℕ) (p : List Placed) → After W r m a k t l p → Keeps W l p tok.Comma (machine.divide (set r t k) a)
  divide_keeps r m a [] t l p h =
      let e = whole_end r m a t l p h in
      (refl, (e.0, λ q d. top_at (opened (finished (set r t []) a) []) (push p (at 0 tok.Comma) (q ++ at 0 (tok.Close false) ∷ at 0 tok.Dot ∷ [])) (e.1 (at 0 tok.Comma ∷ q) (g.comma refl d))))
  divide_keeps r m a (f ∷ k) t l p h = tt

  both_true : (a b : Bool) → (a && b) ≡ true → a ≡ true
  both_true true b h = refl
  both_true false b h = cc

  chain_keeps : (r : Reader) (m : Mode) (a : FoFormula) (k : List Frame) (t : Table) (l : ℕ) (p : List Placed) (o : Chain) (b : Bool) → may_join r.clausal m o ≡ b → is_settled m k ≡ true → After W r m a k t l p →
      Keeps W l p (tok.Chain o) (if b then to (set r t (frame.Join o a ∷ k)) (spot.Want (first_kind r.clausal)) else None)
  chain_keeps r m a k t l p o false may s h = tt
  chain_keeps r m a k t l p o true may s h = record {
    clausal = sym (first_clausal r.clausal);
    fits = join_fits r.clausal o a k;
    part = λ q b t' d. after_at r (mode.Chained o) (join o a b) k t' l (push p (at 0 (tok.Chain o)) q)
        (chained_to r m a k t l p o (join o a b) t' (at 0 (tok.Chain o) ∷ q) s (both_true (goes_on m o) _ may) h (λ q' d' t'' e. g.chained may d e));
    clause = λ is never. cc;
  }

  pair_keeps : (r : Reader) (m : Mode) (a : FoFormula) (k : List Frame) (t : Table) (l : ℕ) (p : List Placed) (c : Pair) (clausal : Bool) → r.clausal ≡ clausal → is_settled m k ≡ true → After W r m a k t l p →
      Keeps W l p (tok.Pair c) (if machine.may_couple clausal m then to (set r t (frame.Couple c a ∷ k)) (spot.Want kind.Unit) else None)
  pair_keeps r mode.Fresh a k t l p c false is s h = record {
    clausal = is;
    fits = record { positive = refl; place = refl };
    part = λ q b t' d. after_at r mode.Ended (couple c a b) k t' l (push p (at 0 (tok.Pair c)) q)
        (ended_to r a k t l p (couple c a b) t' (at 0 (tok.Pair c) ∷ q) s h (subst (λ x. IsFormula l (Rest x mode.Fresh a) t (at 0 (tok.Pair c) ∷ q) (couple c a b) t') (sym is) (g.coupled d)));
    clause = λ is never. cc;
  }
  pair_keeps r mode.Fresh a k t l p c true is s h = tt
  pair_keeps r (mode.Chained o) a k t l p c true is s h = tt
  pair_keeps r (mode.Chained o) a k t l p c false is s h = tt
  pair_keeps r mode.Ended a k t l p c true is s h = tt
  pair_keeps r mode.Ended a k t l p c false is s h = tt

  behind_keeps : (r : Reader) (m : Mode) (a : FoFormula) (k : List Frame) (t : Table) (l : ℕ) (p : List Placed) (x : Tok) → is_settled m k ≡ true → After W r m a k t l p → Keeps W l p x (behind (set r t k) m a x)
  behind_keeps r m a k t l p (tok.Chain o) s h = chain_keeps r m a k t l p o (may_join r.clausal m o) refl s h
  behind_keeps r m a k t l p (tok.Pair c) s h = pair_keeps r m a k t l p c r.clausal refl s h
  behind_keeps r m a k t l p (tok.Close false) s h = close_keeps r m a k t l p s h
  behind_keeps r m a k t l p (tok.Close true) s h = tt
  behind_keeps r m a k t l p tok.Comma s h = divide_keeps r m a k t l p h
  behind_keeps r m a k t l p x s h = tt

  pub have_keeps : (r : Reader) (m : Mode) (a : FoFormula) (k : List Frame) (t : Table) (l : ℕ) (p : List Placed) (x : Tok) → After W r m a k t l p → Keeps W l p x (have (set r t k) m a x)
  unfolding is_settled
  have_keeps r mode.Fresh a k t l p x h =
      let s = settle_unit a k t.variables in
      behind_keeps r s.mode s.formula s.frames (record { symbols = t.symbols; variables = s.scope }) l p x (settled_is k a t.variables) (settled_after r k a t l p h)
  have_keeps r (mode.Chained o) a k t l p x h = behind_keeps r (mode.Chained o) a k t l p x refl h
  have_keeps r mode.Ended a k t l p x h = behind_keeps r mode.Ended a k t l p x refl h

  -- ---- terms

  equal_keeps : (r : Reader) (u : FoTerm) (k : List Frame) (t : Table) (l : ℕ) (p : List Placed) (b c : Bool) → (b || not (is_positive k)) ≡ c → AfterAtom W r u k t l p →
      Keeps W l p (tok.Equal b) (if c then to (set r t (frame.Side b u ∷ k)) spot.WantTerm else None)
  equal_keeps r u k t l p b false e h = tt
  equal_keeps r u k t l p b true e h = λ q v t' d. after_at r mode.Fresh (equation b u v) k t' l (push p (at 0 (tok.Equal b)) q) (h.1 b e q v t' d)

  holds_keeps : (r : Reader) (u : FoTerm) (k : List Frame) (t : Table) (l : ℕ) (p : List Placed) (x : Tok) (c : Bool) → is_symbol u ≡ c → AfterAtom W r u k t l p →
      Keeps W l p x (if c then have (set r t k) mode.Fresh (formula.Atom (Holds u)) x else None)
  holds_keeps r u k t l p x false e h = tt
  holds_keeps r u k t l p x true e h = have_keeps r mode.Fresh (formula.Atom (Holds u)) k t l p x (h.0 e)

  atom_keeps : (r : Reader) (u : FoTerm) (k : List Frame) (t : Table) (l : ℕ) (p : List Placed) (x : Tok) → AfterAtom W r u k t l p → Keeps W l p x (machine.atom (set r t k) u x)
  atom_keeps r u k t l p (tok.Equal b) h = equal_keeps r u k t l p b (b || not (is_positive k)) refl h
  atom_keeps r u k t l p x h = holds_keeps r u k t l p x (is_symbol u) refl h

  argued_keeps : (r : Reader) (f : ℕ) (ts : List FoTerm) (k : List Frame) (t : Table) (l : ℕ) (p : List Placed) (x : Tok) →
      ((q : List Placed) (v : FoTerm) (t' : Table) → IsTerm r.clausal l (g.Argued f ts) t q v t' → AfterTerm W r v k t' (l - 1) (p ++ q)) → Keeps W l p x (machine.argued (set r t k) f ts x)
  argued_keeps r f ts k t l p tok.Comma h = λ q v t' d q' w t'' e. term_at r w k t'' (l - 1) (split p (at 0 tok.Comma) q q') (h (at 0 tok.Comma ∷ q ++ q') w t'' (g.another (g.argument d e)))
  argued_keeps r f ts k t l p (tok.Close false) h = h (at 0 (tok.Close false) ∷ []) (Fun f ts) t g.last
  argued_keeps r f ts k t l p (tok.Close true) h = tt
  argued_keeps r f ts k t l p x h = tt

  pub term_keeps : (r : Reader) (u : FoTerm) (k : List Frame) (t : Table) (l : ℕ) (p : List Placed) (x : Tok) → AfterTerm W r u k t l p → Keeps W l p x (machine.term_in (set r t k) u x k)
  term_keeps r u (frame.Args f ts ∷ k) t l p x h = argued_keeps r f (ts ++ u ∷ []) k t l p x h
  term_keeps r u (frame.Side b v ∷ k) t l p x h = have_keeps r mode.Fresh (equation b v u) k t l p x h
  term_keeps r u [] t l p x h = atom_keeps r u [] t l p x h
  term_keeps r u (frame.Not c ∷ k) t l p x h = atom_keeps r u (frame.Not c ∷ k) t l p x h
  term_keeps r u (frame.Bind q ∷ k) t l p x h = atom_keeps r u (frame.Bind q ∷ k) t l p x h
  term_keeps r u (frame.Join o a ∷ k) t l p x h = atom_keeps r u (frame.Join o a ∷ k) t l p x h
  term_keeps r u (frame.Couple c a ∷ k) t l p x h = atom_keeps r u (frame.Couple c a ∷ k) t l p x h
  term_keeps r u (frame.Round ∷ k) t l p x h = atom_keeps r u (frame.Round ∷ k) t l p x h
  term_keeps r u (frame.Group b s ∷ k) t l p x h = atom_keeps r u (frame.Group b s ∷ k) t l p x h

  named_keeps : (r : Reader) (f l : ℕ) (p : List Placed) (x : Tok) → AtNamed W r f l p → Keeps W l p x (machine.named r f x)
  named_keeps r f l p (tok.Open false) h = λ q v t' d q' w t'' e.
      subst (λ n. AfterTerm W r w r.frames t'' n (((p ++ at (l + 1) (tok.Open false) ∷ []) ++ q) ++ q')) (sym (back l))
      (term_at r w r.frames t'' l (split p (at (l + 1) (tok.Open false)) q q') (h.applied (q ++ q') w t'' (g.argument d e)))
  named_keeps r f l p (tok.Open true) h = term_keeps r (Fun f []) r.frames (table W r) l p (tok.Open true) h.alone
  named_keeps r f l p x h = term_keeps r (Fun f []) r.frames (table W r) l p x h.alone

  -- ---- where a term is due

  symbol_keeps : (r : Reader) (q : Bool) (x l : ℕ) (p : List Placed) → AtTerm W r l p → Keeps W l p (tok.Name q x) (machine.symbol r x)
  symbol_keeps r q x l p h = record {
    alone = h (at 0 (tok.Name q x) ∷ []) _ _ g.constant;
    applied = λ q' u t' d. term_at r u r.frames t' l (push p (at 0 (tok.Name q x)) (at (l + 1) (tok.Open false) ∷ q')) (h (at 0 (tok.Name q x) ∷ at (l + 1) (tok.Open false) ∷ q') u t' (g.applied d));
  }

  variable_keeps : (r : Reader) (x l : ℕ) (p : List Placed) (b : Bool) → (r.clausal || g.is_bound x r.scope) ≡ b → AtTerm W r l p →
      Keeps W l p (tok.Upper x) (if b then to (record r { scope = if g.is_bound x r.scope then r.scope else x ∷ r.scope }) (spot.Term (Var (g.variable_number x r.scope))) else None)
  variable_keeps r x l p false e h = tt
  variable_keeps r x l p true e h = h (at 0 (tok.Upper x) ∷ []) _ _ (g.variable e)

  pub want_term_keeps : (r : Reader) (l : ℕ) (p : List Placed) (x : Tok) → AtTerm W r l p → Keeps W l p x (machine.want_term r x)
  want_term_keeps r l p (tok.Name q x) h = symbol_keeps r q x l p h
  want_term_keeps r l p (tok.Upper x) h = variable_keeps r x l p (r.clausal || g.is_bound x r.scope) refl h
  want_term_keeps r l p x h = tt

  -- ---- where a part is due

  place_after : (r : Reader) (u : FoTerm) (k : List Frame) (t : Table) (l : ℕ) (p : List Placed) → is_place k ≡ true → AfterAtom W r u k t l p → AfterTerm W r u k t l p
  place_after r u [] t l p s h = h
  place_after r u (frame.Not c ∷ k) t l p s h = h
  place_after r u (frame.Bind q ∷ k) t l p s h = h
  place_after r u (frame.Join o a ∷ k) t l p s h = h
  place_after r u (frame.Couple c a ∷ k) t l p s h = h
  place_after r u (frame.Round ∷ k) t l p s h = h
  place_after r u (frame.Group b s ∷ k) t l p is h = h
  place_after r u (frame.Args f ts ∷ k) t l p s h = cc
  place_after r u (frame.Side b v ∷ k) t l p s h = cc

  equal_there : (k : Kind) (b c : Bool) → c ≡ is_positive_kind k → (b || not c) ≡ true → may_equal k b ≡ true
  equal_there kind.Unit b c is h = refl
  equal_there kind.Literal b c is h = refl
  equal_there kind.Positive true c is h = refl
  equal_there kind.Positive false c is h = sym (ap not is) ∙ h

  term_of_want : (r : Reader) (k : Kind) (l : ℕ) (p : List Placed) → AtWant W r k l p → AtTerm W r l p
  term_of_want r k l p h = λ q u t' d.
      let d' : IsTerm (is_clausal k) l Term (table W r) q u t' = subst (λ b. IsTerm b l Term (table W r) q u t') h.clausal d in
      place_after r u r.frames t' l (p ++ q) h.fits.place (
        (λ is. h.part q (formula.Atom (Holds u)) t' (g.holds d' is)),
        (λ b may q' v t'' e. after_at r mode.Fresh (equation b u v) r.frames t'' l (sym (append_assoc p q (at 0 (tok.Equal b) ∷ q')))
            (h.part (q ++ at 0 (tok.Equal b) ∷ q') (equation b u v) t'' (g.equal d' b (equal_there k b (is_positive r.frames) h.fits.positive may) (subst (λ y. IsTerm y l Term t' q' v t'') h.clausal e)))),
      )

  negate_keeps : (r : Reader) (k : Kind) (l : ℕ) (p : List Placed) (o : Option Kind) → negated k ≡ o → AtWant W r k l p → Keeps W l p tok.Tilde (machine.negate_to r o)
  negate_keeps r k l p None e h = tt
  negate_keeps r k l p (Some j) e h = record {
    clausal = h.clausal ∙ negated_clausal k j e;
    fits = record { positive = refl; place = refl };
    part = λ q a t' d. after_at r mode.Fresh (formula.Not a) r.frames t' l (push p (at 0 tok.Tilde) q) (h.part (at 0 tok.Tilde ∷ q) (formula.Not a) t' (g.negation e d));
    clause = λ is never. cc;
  }

  quantify_keeps : (r : Reader) (k : Kind) (q : Quant) (l : ℕ) (p : List Placed) → AtWant W r k l p → Keeps W l p (tok.Quant q) (machine.quantify r k q)
  quantify_keeps r kind.Unit q l p h = record {
    clausal = h.clausal;
    goes = λ q' a t' d. after_at r mode.Fresh a r.frames t' l (push p (at 0 (tok.Quant q)) (at (l + 1) (tok.Open true) ∷ q')) (h.part (at 0 (tok.Quant q) ∷ at (l + 1) (tok.Open true) ∷ q') a t' (g.quantifier d));
  }
  quantify_keeps r kind.Literal q l p h = tt
  quantify_keeps r kind.Positive q l p h = tt

  -- a level deeper, and back
  after_back : (r : Reader) (m : Mode) (a : FoFormula) (k : List Frame) (t : Table) (l : ℕ) (p : List Placed) → After W r m a k t l p → After W r m a k t (l + 1 - 1) p
  after_back r m a k t l p h = subst (λ n. After W r m a k t n p) (sym (back l)) h

  round_is : (r : Reader) (c : Bool) (a : FoFormula) (k : List Frame) (t : Table) (l : ℕ) (p : List Placed) → r.clausal ≡ c → After W r (round_mode c) a k t l p → After W r (round_mode r.clausal) a k t (l + 1 - 1) p
  round_is r c a k t l p is h = subst (λ b. After W r (round_mode b) a k t (l + 1 - 1) p) (sym is) (after_back r (round_mode c) a k t l p h)

  open_unit : (r : Reader) (l : ℕ) (p : List Placed) → AtWant W r kind.Unit l p → AtWant W (machine.within r frame.Round) kind.Unit (l + 1) (p ++ at (l + 1) (tok.Open false) ∷ [])
  open_unit r l p h = record {
    clausal = h.clausal;
    fits = record { positive = refl; place = refl };
    part = λ q a t' d q' b t'' e. round_is r false b r.frames t'' l _ h.clausal
        (after_at r mode.Fresh b r.frames t'' l (round_split p (at (l + 1) (tok.Open false)) q q' (at 0 (tok.Close false)))
        (h.part (at (l + 1) (tok.Open false) ∷ (q ++ q') ++ at 0 (tok.Close false) ∷ []) b t'' (g.round (g.joined d (subst (λ c. IsFormula (l + 1) (Rest c mode.Fresh a) t' q' b t'') h.clausal e)))));
    clause = λ is outset. cc;
  }

  open_clause : (r : Reader) (l : ℕ) (p : List Placed) → is_outset r.frames ≡ true → AtWant W r kind.Literal l p → AtWant W (machine.within r frame.Round) kind.Literal (l + 1) (p ++ at (l + 1) (tok.Open false) ∷ [])
  open_clause r l p outset h = record {
    clausal = h.clausal;
    fits = record { positive = refl; place = refl };
    part = λ q a t' d q' b t'' e. round_is r true b r.frames t'' l _ h.clausal
        (after_at r mode.Ended b r.frames t'' l (round_split p (at (l + 1) (tok.Open false)) q q' (at 0 (tok.Close false)))
        (h.clause refl outset (at (l + 1) (tok.Open false) ∷ (q ++ q') ++ at 0 (tok.Close false) ∷ []) b t'' (g.clause (g.joined d (subst (λ c. IsFormula (l + 1) (Rest c mode.Fresh a) t' q' b t'') h.clausal e)))));
    clause = λ is again q a t' d. round_is r true a r.frames t' l _ h.clausal
        (after_at r mode.Ended a r.frames t' l (clause_split p (at (l + 1) (tok.Open false)) q (at 0 (tok.Close false)))
        (h.clause refl outset (at (l + 1) (tok.Open false) ∷ q ++ at 0 (tok.Close false) ∷ []) a t' (g.clause d)));
  }

  literal_keeps : (r : Reader) (l : ℕ) (p : List Placed) (b : Bool) → is_outset r.frames ≡ b → AtWant W r kind.Literal l p →
      Keeps W l p (tok.Open false) (if b then to (machine.within r frame.Round) (spot.Want kind.Literal) else None)
  literal_keeps r l p false e h = tt
  literal_keeps r l p true e h = open_clause r l p e h

  open_keeps : (r : Reader) (k : Kind) (l : ℕ) (p : List Placed) → AtWant W r k l p → Keeps W l p (tok.Open false) (if machine.may_open k r.frames then to (machine.within r frame.Round) (spot.Want k) else None)
  open_keeps r kind.Unit l p h = open_unit r l p h
  open_keeps r kind.Literal l p h = literal_keeps r l p (is_outset r.frames) refl h
  open_keeps r kind.Positive l p h = tt

  pub want_keeps : (r : Reader) (k : Kind) (l : ℕ) (p : List Placed) (x : Tok) → AtWant W r k l p → Keeps W l p x (machine.want r k x)
  want_keeps r k l p (tok.Truth b) h = h.part (at 0 (tok.Truth b) ∷ []) (g.truth b) (table W r) (g.truth_word b)
  want_keeps r k l p tok.Tilde h = negate_keeps r k l p (negated k) refl h
  want_keeps r k l p (tok.Quant q) h = quantify_keeps r k q l p h
  want_keeps r k l p (tok.Open false) h = open_keeps r k l p h
  want_keeps r k l p (tok.Open true) h = tt
  want_keeps r k l p x h = want_term_keeps r l p x (term_of_want r k l p h)

  -- ---- quantifiers

  square_keeps : (r : Reader) (q : Quant) (l : ℕ) (p : List Placed) (x : Tok) → AtSquare W r q l p → Keeps W l p x (machine.square_due r q x)
  square_keeps r q l p (tok.Open true) h = record {
    clausal = h.clausal;
    level = l;
    is_level = refl;
    goes = λ q' a t' d. after_at r mode.Fresh a r.frames t' l (push p (at (l + 1) (tok.Open true)) q') (h.goes q' a t' d);
  }
  square_keeps r q l p (tok.Open false) h = tt
  square_keeps r q l p x h = tt

  -- the variable of a quantifier, whose body is read
  bound_after : (r : Reader) (q : Quant) (x : ℕ) (a : FoFormula) (t' : Table) (l : ℕ) (p : List Placed) → t'.variables ≡ x ∷ r.scope →
      After W r mode.Fresh (quantified q (length r.scope) a) r.frames (outside (table W r) t') l p → After W r mode.Fresh a (frame.Bind q ∷ r.frames) t' l p
  bound_after r q x a t' l p is h =
      subst (λ vs. After W r mode.Fresh (quantified q (length (inner vs)) a) r.frames (record { symbols = t'.symbols; variables = inner vs }) l p) (sym is) h

  variable_due_keeps : (r : Reader) (q : Quant) (n : ℕ) (p : List Placed) (x : Tok) → AtVariable W r q n p → Keeps W n p x (machine.variable_due r q x)
  variable_due_keeps r q n p (tok.Upper x) h = record {
    clausal = h.clausal;
    level = h.level;
    is_level = h.is_level;
    fits = record { positive = refl; place = refl };
    another = λ q' a t' d. bound_after r q x a t' h.level _ (formula_keeps d refl)
        (after_at r mode.Fresh _ r.frames _ h.level (push p (at 0 (tok.Upper x)) (at 0 tok.Comma ∷ q')) (h.goes (at 0 (tok.Upper x) ∷ at 0 tok.Comma ∷ q') _ _ (g.another d)));
    last = λ q' a t' d. bound_after r q x a t' h.level _ (formula_keeps d refl)
        (after_at r mode.Fresh _ r.frames _ h.level (push p (at 0 (tok.Upper x)) (at 0 (tok.Close true) ∷ at 0 tok.Colon ∷ q')) (h.goes (at 0 (tok.Upper x) ∷ at 0 (tok.Close true) ∷ at 0 tok.Colon ∷ q') _ _ (g.last d)));
  }
  variable_due_keeps r q n p x h = tt

  variable_end_keeps : (r : Reader) (q : Quant) (n : ℕ) (p : List Placed) (x : Tok) → AtVariableEnd W r q n p → Keeps W n p x (machine.variable_end r q x)
  variable_end_keeps r q n p tok.Comma h = record {
    clausal = h.clausal;
    level = h.level;
    is_level = h.is_level;
    goes = λ q' a t' d. after_at r mode.Fresh a r.frames t' h.level (push p (at 0 tok.Comma) q') (h.another q' a t' d);
  }
  variable_end_keeps r q n p (tok.Close true) h =
      let e = h.is_level in
      let same : h.level ≡ n - 1 = omega arith in
      subst (λ l. AtColon W r l (p ++ at 0 (tok.Close true) ∷ [])) same (record {
        clausal = h.clausal;
        fits = h.fits;
        goes = λ q' a t' d. after_at r mode.Fresh a r.frames t' h.level (push p (at 0 (tok.Close true)) (at 0 tok.Colon ∷ q')) (h.last q' a t' d);
      })
  variable_end_keeps r q n p (tok.Close false) h = tt
  variable_end_keeps r q n p x h = tt

  colon_keeps : (r : Reader) (l : ℕ) (p : List Placed) (x : Tok) → AtColon W r l p → Keeps W l p x (machine.colon_due r x)
  colon_keeps r l p tok.Colon h = record {
    clausal = h.clausal;
    fits = h.fits;
    part = λ q a t' d. after_at r mode.Fresh a r.frames t' l (push p (at 0 tok.Colon) q) (h.goes q a t' d);
    clause = λ is outset. cc;
  }
  colon_keeps r l p x h = tt

  -- ---- further parts

  filler_at : (r : Reader) (l : ℕ) (s : Skip) (k : List Frame) (p : List Placed) (x : Tok) → is_filler s x ≡ true → AtSkip W r l s k p → AtSkip W r l (gone_on s) k (p ++ at 0 x ∷ [])
  filler_at r l s [] p x is h = (h.0, λ q d. top_at r (push p (at 0 x) (q ++ at 0 (tok.Close false) ∷ at 0 tok.Dot ∷ [])) (h.1 (at 0 x ∷ q) (g.token is d)))
  filler_at r l s (frame.Group b next ∷ k) p x is h = (ap gone_on h.0, λ q d. skip_at r (l - 1) next k (push p (at 0 x) (q ++ at 0 (tok.Close b) ∷ [])) (h.1 (at 0 x ∷ q) (g.token is d)))
  filler_at r l s (frame.Args f ts ∷ k) p x is h = h
  filler_at r l s (frame.Side b u ∷ k) p x is h = h
  filler_at r l s (frame.Not c ∷ k) p x is h = h
  filler_at r l s (frame.Bind q ∷ k) p x is h = h
  filler_at r l s (frame.Join o a ∷ k) p x is h = h
  filler_at r l s (frame.Couple c a ∷ k) p x is h = h
  filler_at r l s (frame.Round ∷ k) p x is h = h

  comma_at : (r : Reader) (l : ℕ) (s : Skip) (k : List Frame) (p : List Placed) → is_filler s tok.Comma ≡ false → may_divide s ≡ true → AtSkip W r l s k p → AtSkip W r l skip.Begun k (p ++ at 0 tok.Comma ∷ [])
  comma_at r l s [] p none is h = (h.0, λ q d. top_at r (push p (at 0 tok.Comma) (q ++ at 0 (tok.Close false) ∷ at 0 tok.Dot ∷ [])) (h.1 (at 0 tok.Comma ∷ q) (g.comma is d)))
  comma_at r l s (frame.Group b next ∷ k) p none is h = let filler = ap (λ y. is_filler y tok.Comma) h.0 in cc
  comma_at r l s (frame.Args f ts ∷ k) p none is h = h
  comma_at r l s (frame.Side b u ∷ k) p none is h = h
  comma_at r l s (frame.Not c ∷ k) p none is h = h
  comma_at r l s (frame.Bind q ∷ k) p none is h = h
  comma_at r l s (frame.Join o a ∷ k) p none is h = h
  comma_at r l s (frame.Couple c a ∷ k) p none is h = h
  comma_at r l s (frame.Round ∷ k) p none is h = h

  comma_keeps : (r : Reader) (s : Skip) (l : ℕ) (p : List Placed) (b c : Bool) → is_filler s tok.Comma ≡ b → may_divide s ≡ c → r.scope ≡ [] → AtSkip W r l s r.frames p →
      Keeps W l p tok.Comma (if b then to r (spot.Skip (gone_on s)) else if c then to r (spot.Skip skip.Begun) else None)
  comma_keeps r s l p true c e f bare h = (bare, filler_at r l s r.frames p tok.Comma e h)
  comma_keeps r s l p false true e f bare h = (bare, comma_at r l s r.frames p e f h)
  comma_keeps r s l p false false e f bare h = tt

  group_at : (r : Reader) (l : ℕ) (s : Skip) (b : Bool) (k : List Frame) (p : List Placed) → in_part s ≡ true → AtSkip W r l s k p →
      (q q' : List Placed) → IsSkipped (l + 1) skip.Group q → IsSkipped l (gone_on s) q' → (z : List Placed) → z ≡ at (l + 1) (tok.Open b) ∷ q ++ at 0 (tok.Close b) ∷ q' → IsSkipped l s z
  group_at r l s b k p is h q q' d e z same = subst (λ y. IsSkipped l s y) (sym same) (g.group is d e)

  group_split : (p : List Placed) (x : Placed) (q : List Placed) (y : Placed) (r e : List Placed) → p ++ ((x ∷ q ++ y ∷ r) ++ e) ≡ ((p ++ x ∷ []) ++ (q ++ y ∷ [])) ++ (r ++ e)
  group_split p x q y r e = simp append_assoc

  opened_at : (r : Reader) (l : ℕ) (s : Skip) (b : Bool) (k : List Frame) (p : List Placed) → in_part s ≡ true → AtSkip W r l s k p →
      AtSkip W r (l + 1) skip.Group (frame.Group b (gone_on s) ∷ k) (p ++ at (l + 1) (tok.Open b) ∷ [])
  opened_at r l s b [] p is h = (
    refl,
    λ q d. subst (λ n. AtSkip W r n (gone_on s) [] ((p ++ at (l + 1) (tok.Open b) ∷ []) ++ (q ++ at 0 (tok.Close b) ∷ []))) (sym (back l))
        (h.0, λ q' e. top_at r (group_split p (at (l + 1) (tok.Open b)) q (at 0 (tok.Close b)) q' (at 0 (tok.Close false) ∷ at 0 tok.Dot ∷ [])) (h.1 (at (l + 1) (tok.Open b) ∷ q ++ at 0 (tok.Close b) ∷ q') (g.group is d e))),
  )
  opened_at r l s b (frame.Group c next ∷ k) p is h = (
    refl,
    λ q d. subst (λ n. AtSkip W r n (gone_on s) (frame.Group c next ∷ k) ((p ++ at (l + 1) (tok.Open b) ∷ []) ++ (q ++ at 0 (tok.Close b) ∷ []))) (sym (back l))
        (ap gone_on h.0, λ q' e. skip_at r (l - 1) next k (group_split p (at (l + 1) (tok.Open b)) q (at 0 (tok.Close b)) q' (at 0 (tok.Close c) ∷ [])) (h.1 (at (l + 1) (tok.Open b) ∷ q ++ at 0 (tok.Close b) ∷ q') (g.group is d e))),
  )
  opened_at r l s b (frame.Args f ts ∷ k) p is h = absurd h
  opened_at r l s b (frame.Side c u ∷ k) p is h = absurd h
  opened_at r l s b (frame.Not c ∷ k) p is h = absurd h
  opened_at r l s b (frame.Bind q ∷ k) p is h = absurd h
  opened_at r l s b (frame.Join o a ∷ k) p is h = absurd h
  opened_at r l s b (frame.Couple c a ∷ k) p is h = absurd h
  opened_at r l s b (frame.Round ∷ k) p is h = absurd h

  part_keeps : (r : Reader) (s : Skip) (b : Bool) (l : ℕ) (p : List Placed) (c : Bool) → in_part s ≡ c → r.scope ≡ [] → AtSkip W r l s r.frames p →
      Keeps W l p (tok.Open b) (if c then to (machine.within r (frame.Group b (gone_on s))) (spot.Skip skip.Group) else None)
  part_keeps r s b l p false e bare h = tt
  part_keeps r s b l p true e bare h = (bare, opened_at r l s b r.frames p e h)

  same_is : (a b : Bool) → same_bracket a b ≡ true → a ≡ b
  same_is true true h = refl
  same_is true false h = cc
  same_is false true h = cc
  same_is false false h = refl

  shut_keeps : (r : Reader) (s : Skip) (b c : Bool) (next : Skip) (k : List Frame) (l : ℕ) (p : List Placed) (y : Bool) → same_bracket c b ≡ y → r.scope ≡ [] → AtSkip W r l s (frame.Group c next ∷ k) p →
      Keeps W l p (tok.Close b) (grouped (record r { frames = k }) (if y then Some next else None))
  shut_keeps r s b c next k l p false e bare h = tt
  shut_keeps r s b c next k l p true e bare h =
      let ends : may_end s ≡ true = ap may_end h.0 in
      (bare, subst (λ z. AtSkip W r (l - 1) next k (p ++ at 0 (tok.Close z) ∷ [])) (same_is c b e) (h.1 [] (g.end ends)))

  end_keeps : (r : Reader) (s : Skip) (b : Bool) (l : ℕ) (p : List Placed) (y : Bool) → (not b && may_end s) ≡ y → r.scope ≡ [] → AtSkip W r l s [] p →
      Keeps W l p (tok.Close b) (if y then to (record r { frames = [] }) spot.Dot else None)
  end_keeps r s b l p false e bare h = tt
  end_keeps r s true l p true e bare h = cc
  end_keeps r s false l p true e bare h =
      let one = h.0 in
      let none : l - 1 ≡ 0 = omega arith in
      (record { frames = refl; scope = bare }, none, top_at r (push p (at 0 (tok.Close false)) (at 0 tok.Dot ∷ [])) (h.1 [] (g.end e)))

  group_keeps : (r : Reader) (s : Skip) (b : Bool) (k : List Frame) (l : ℕ) (p : List Placed) → r.scope ≡ [] → AtSkip W r l s k p → Keeps W l p (tok.Close b) (machine.close_group (record r { frames = k }) s b k)
  group_keeps r s b [] l p bare h = end_keeps r s b l p (not b && may_end s) refl bare h
  group_keeps r s b (frame.Group c next ∷ k) l p bare h = shut_keeps r s b c next k l p (same_bracket c b) refl bare h
  group_keeps r s b (frame.Args f ts ∷ k) l p bare h = tt
  group_keeps r s b (frame.Side c u ∷ k) l p bare h = tt
  group_keeps r s b (frame.Not c ∷ k) l p bare h = tt
  group_keeps r s b (frame.Bind q ∷ k) l p bare h = tt
  group_keeps r s b (frame.Join o a ∷ k) l p bare h = tt
  group_keeps r s b (frame.Couple c a ∷ k) l p bare h = tt
  group_keeps r s b (frame.Round ∷ k) l p bare h = tt

  other_keeps : (r : Reader) (s : Skip) (x : Tok) (l : ℕ) (p : List Placed) (b : Bool) → is_filler s x ≡ b → r.scope ≡ [] → AtSkip W r l s r.frames p →
      level_of l x ≡ 0 → open_behind l x ≡ l → Keeps W l p x (if b then to r (spot.Skip (gone_on s)) else None)
  other_keeps r s x l p false e bare h low flat = tt
  other_keeps r s x l p true e bare h low flat = (
    bare,
    subst (λ n. AtSkip W r n (gone_on s) r.frames (p ++ at (level_of l x) x ∷ [])) (sym flat)
        (subst (λ n. AtSkip W r l (gone_on s) r.frames (p ++ at n x ∷ [])) (sym low) (filler_at r l s r.frames p x e h)),
  )

  skip_keeps : (r : Reader) (s : Skip) (l : ℕ) (p : List Placed) (x : Tok) → r.scope ≡ [] → AtSkip W r l s r.frames p → Keeps W l p x (machine.skip_on r s x)
  skip_keeps r s l p (tok.Open b) bare h = part_keeps r s b l p (in_part s) refl bare h
  skip_keeps r s l p (tok.Close b) bare h = group_keeps r s b r.frames l p bare h
  skip_keeps r s l p tok.Comma bare h = comma_keeps r s l p (is_filler s tok.Comma) (may_divide s) refl refl bare h
  skip_keeps r s l p x bare h = other_keeps r s x l p (is_filler s x) refl bare h refl refl

  -- ---- a statement's head

  statement_split : (p : List Placed) (a b c d e f : Placed) (q s : List Placed) (x y : Placed) (r : List Placed) →
      p ++ ((a ∷ b ∷ c ∷ d ∷ e ∷ f ∷ []) ++ q ++ s ++ x ∷ y ∷ r) ≡ (((((((p ++ a ∷ []) ++ b ∷ []) ++ (c ∷ d ∷ [])) ++ (e ∷ f ∷ [])) ++ q) ++ (s ++ x ∷ y ∷ [])) ++ r)
  statement_split p a b c d e f q s x y r = simp append_assoc

  head_comes : (r : Reader) (p : List Placed) (c : Bool) → AtTop W r p → AtName W (record r { clausal = c }) ((p ++ at 0 (tok.Name false (head_word c)) ∷ []) ++ at 1 (tok.Open false) ∷ [])
  head_comes r p c h = λ quoted name role may q a t d. (
    refl,
    λ s e r' v f.
        let claim : Claimed = record { name = name; conjecture = is_conjecture role; formula = stated c t a } in
        let whole = h (g.head c quoted name role ++ q ++ s ++ at 0 (tok.Close false) ∷ at 0 tok.Dot ∷ r') _ (g.statement {quoted = quoted} {name = name} may d e f) in
        let joined = statement_split p (at 0 (tok.Name false (head_word c))) (at 1 (tok.Open false)) (at 0 (tok.Name quoted name)) (at 0 tok.Comma) (at 0 (tok.Name false role)) (at 0 tok.Comma) q s (at 0 (tok.Close false)) (at 0 tok.Dot) r' in
        subst (λ z. W z (record { symbols = v.symbols; statements = (r.done ++ claim ∷ []) ++ v.statements })) joined
        (subst (λ ss. W (p ++ (g.head c quoted name role ++ q ++ s ++ at 0 (tok.Close false) ∷ at 0 tok.Dot ∷ r')) (record { symbols = v.symbols; statements = ss })) (sym (append_assoc r.done (claim ∷ []) v.statements)) whole),
  )

  word_keeps : (r : Reader) (n l : ℕ) (p : List Placed) (a b : Bool) → eqb n 0 ≡ a → eqb n 1 ≡ b → Bare W r → l ≡ 0 → AtTop W r p →
      Keeps W l p (tok.Name false n) (if a then to (record r { clausal = false }) spot.Open else if b then to (record r { clausal = true }) spot.Open else None)
  word_keeps r n l p true b e f bare low h =
      let is : n ≡ 0 = eqb-true n 0 e in
      (record { frames = bare.frames; scope = bare.scope }, low, subst (λ k. AtName W (record r { clausal = false }) ((p ++ at 0 (tok.Name false k) ∷ []) ++ at 1 (tok.Open false) ∷ [])) (sym is) (head_comes r p false h))
  word_keeps r n l p false true e f bare low h =
      let is : n ≡ 1 = eqb-true n 1 f in
      (record { frames = bare.frames; scope = bare.scope }, low, subst (λ k. AtName W (record r { clausal = true }) ((p ++ at 0 (tok.Name false k) ∷ []) ++ at 1 (tok.Open false) ∷ [])) (sym is) (head_comes r p true h))
  word_keeps r n l p false false e f bare low h = tt

  top_keeps : (r : Reader) (l : ℕ) (p : List Placed) (x : Tok) → Come W r spot.Top l p → Keeps W l p x (machine.top r x)
  top_keeps r l p (tok.Name false n) h = word_keeps r n l p (eqb n 0) (eqb n 1) refl refl h.0 h.1 h.2
  top_keeps r l p (tok.Name true n) h = tt
  top_keeps r l p x h = tt

  open_due_keeps : (r : Reader) (l : ℕ) (p : List Placed) (x : Tok) → Come W r spot.Open l p → Keeps W l p x (machine.open_due r x)
  open_due_keeps r l p (tok.Open false) h =
      let low = h.1 in
      let one : l + 1 ≡ 1 = omega arith in
      (h.0, one, subst (λ n. AtName W r (p ++ at n (tok.Open false) ∷ [])) (sym one) h.2)
  open_due_keeps r l p (tok.Open true) h = tt
  open_due_keeps r l p x h = tt

  name_due_keeps : (r : Reader) (l : ℕ) (p : List Placed) (x : Tok) → Come W r spot.Name l p → Keeps W l p x (machine.name_due r x)
  name_due_keeps r l p (tok.Name q n) h = (
    record { frames = h.0.frames; scope = h.0.scope },
    h.1,
    subst (λ z. AtRole W (record r { name = n }) z) (push p (at 0 (tok.Name q n)) (at 0 tok.Comma ∷ [])) (h.2 q n),
  )
  name_due_keeps r l p x h = tt

  name_end_keeps : (r : Reader) (l : ℕ) (p : List Placed) (x : Tok) → Come W r spot.NameEnd l p → Keeps W l p x (machine.comma_due r spot.Role x)
  name_end_keeps r l p tok.Comma h = h
  name_end_keeps r l p x h = tt

  role_is : (r : Reader) (n l : ℕ) (p : List Placed) (b : Bool) → may_stand r.had n ≡ b → Come W r spot.Role l p →
      Keeps W l p (tok.Name false n) (if b then to (record r { conjecture = is_conjecture n }) spot.RoleEnd else None)
  role_is r n l p false e h = tt
  role_is r n l p true e h = (
    record { frames = h.0.frames; scope = h.0.scope },
    h.1,
    subst (λ z. AtFormula W (record r { conjecture = is_conjecture n }) z) (push p (at 0 (tok.Name false n)) (at 0 tok.Comma ∷ [])) (h.2 n e),
  )

  role_keeps : (r : Reader) (l : ℕ) (p : List Placed) (x : Tok) → Come W r spot.Role l p → Keeps W l p x (machine.role_due r x)
  role_keeps r l p (tok.Name false n) h = role_is r n l p (may_stand r.had n) refl h
  role_keeps r l p (tok.Name true n) h = tt
  role_keeps r l p x h = tt

  -- the formula of a statement
  formula_part : (r : Reader) (p : List Placed) → AtFormula W r p → AtPart W r (first_kind r.clausal) [] (record { symbols = r.symbols; variables = [] }) 1 p
  formula_part r p h = λ q a t' d q' b t'' e. skip_at (opened (finished (set r t'' []) b) []) 1 skip.Behind [] (sym (append_assoc p q q')) (h (q ++ q') b t'' (g.joined d e))

  formula_clause : (r : Reader) (p : List Placed) → r.clausal ≡ true → AtFormula W r p → AtClause W r [] (record { symbols = r.symbols; variables = [] }) 1 p
  formula_clause r p is h = λ q a t' d. h q a t' (subst (λ c. IsFormula 1 (Formula c) (record { symbols = r.symbols; variables = [] }) q a t') (sym is) d)

  literal_first : (c : Bool) → first_kind c ≡ kind.Literal → c ≡ true
  literal_first true h = refl
  literal_first false h = cc

  role_end_keeps : (r : Reader) (l : ℕ) (p : List Placed) (x : Tok) → Come W r spot.RoleEnd l p → Keeps W l p x (machine.comma_due r (spot.Want (first_kind r.clausal)) x)
  role_end_keeps r l p tok.Comma h =
      let after = p ++ at 0 tok.Comma ∷ [] in
      let none : r.frames ≡ [] = h.0.frames in
      let bare : r.scope ≡ [] = h.0.scope in
      subst (λ n. AtWant W r (first_kind r.clausal) n after) (sym h.1) (record {
        clausal = sym (first_clausal r.clausal);
        fits = subst (λ k. Fits (first_kind r.clausal) k) (sym none) (first_fits r.clausal [] refl);
        part = subst (λ k. AtPart W r (first_kind r.clausal) k (table W r) 1 after) (sym none)
            (subst (λ vs. AtPart W r (first_kind r.clausal) [] (record { symbols = r.symbols; variables = vs }) 1 after) (sym bare) (formula_part r after h.2));
        clause = λ is outset. subst (λ k. AtClause W r k (table W r) 1 after) (sym none)
            (subst (λ vs. AtClause W r [] (record { symbols = r.symbols; variables = vs }) 1 after) (sym bare) (formula_clause r after (literal_first r.clausal is) h.2));
      })
  role_end_keeps r l p x h = tt

  dot_keeps : (r : Reader) (l : ℕ) (p : List Placed) (x : Tok) → Come W r spot.Dot l p → Keeps W l p x (machine.dot_due r x)
  dot_keeps r l p tok.Dot h = h
  dot_keeps r l p x h = tt

  -- ---- each token

  pub step_keeps : (r : Reader) (s : Spot) (l : ℕ) (p : List Placed) (x : Tok) → Come W r s l p → Keeps W l p x (machine.step_at r s x)
  step_keeps r spot.Top l p x h = top_keeps r l p x h
  step_keeps r spot.Open l p x h = open_due_keeps r l p x h
  step_keeps r spot.Name l p x h = name_due_keeps r l p x h
  step_keeps r spot.NameEnd l p x h = name_end_keeps r l p x h
  step_keeps r spot.Role l p x h = role_keeps r l p x h
  step_keeps r spot.RoleEnd l p x h = role_end_keeps r l p x h
  step_keeps r (spot.Want k) l p x h = want_keeps r k l p x h
  step_keeps r spot.WantTerm l p x h = want_term_keeps r l p x h
  step_keeps r (spot.Square q) l p x h = square_keeps r q l p x h
  step_keeps r (spot.Variable q) l p x h = variable_due_keeps r q l p x h
  step_keeps r (spot.VariableEnd q) l p x h = variable_end_keeps r q l p x h
  step_keeps r spot.Colon l p x h = colon_keeps r l p x h
  step_keeps r (spot.Named f) l p x h = named_keeps r f l p x h
  step_keeps r (spot.Term u) l p x h = term_keeps r u r.frames (table W r) l p x h
  step_keeps r (spot.Have m a) l p x h = have_keeps r m a r.frames (table W r) l p x h
  step_keeps r (spot.Skip s) l p x h = skip_keeps r s l p x h.0 h.1
  step_keeps r spot.Dot l p x h = dot_keeps r l p x h
