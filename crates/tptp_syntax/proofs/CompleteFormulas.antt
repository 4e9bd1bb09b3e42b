-- Formulas that are derivable are walked through.
use Rattle.std.proofs.Common.{◌≡◌, ℕ, ◌+◌, ◌<◌, ◌||◌, not, Bool, true, false, List, [], ◌∷◌, ◌++◌, length, Some, None, refl, sym, ap, ◌∙◌, arith, if◌then◌else◌}
use Rattle.fo_terms.specs.declared.term.FoTerm.{FoTerm}
use Rattle.fo_terms.specs.declared.atom.Atom.TheVariants.{Holds}
use Rattle.fo_terms.specs.declared.formula.FoFormula.{FoFormula}
use Rattle.fo_terms.specs.declared.formula.FoFormula.TheVariants as formula
use Rattle.tptp_syntax.specs.declared.tokens.Quant.{Quant}
use Rattle.tptp_syntax.specs.declared.tokens.Chain.{Chain}
use Rattle.tptp_syntax.specs.declared.tokens.Pair.{Pair}
use Rattle.tptp_syntax.specs.declared.tokens.Tok.{Tok}
use Rattle.tptp_syntax.specs.declared.tokens.Tok.TheVariants as tok
use Rattle.tptp_syntax.specs.declared.sorts.Kind.{Kind}
use Rattle.tptp_syntax.specs.declared.sorts.Kind.TheVariants as kind
use Rattle.tptp_syntax.specs.declared.sorts.Mode.{Mode}
use Rattle.tptp_syntax.specs.declared.sorts.Mode.TheVariants as mode
use Rattle.tptp_syntax.specs.declared.frames.Frame.{Frame}
use Rattle.tptp_syntax.specs.declared.frames.Frame.TheVariants as frame
use Rattle.tptp_syntax.specs.declared.reader.Spot.TheVariants as spot
use Rattle.tptp_syntax.specs.declared.reader.Reader.{Reader}
use Rattle.tptp_syntax.specs.Grammar as g
use Rattle.tptp_syntax.specs.Grammar.{Placed, at, Table, bind, outside, truth, equation, join, couple, quantified, is_symbol, is_clausal, first_kind, negated, may_equal, may_join, Sort, Start, Bound, Formula, Rest, IsFormula}
use Rattle.tptp_syntax.specs.inner.Machine.{put, run, step, counted, to, inner, is_outset, is_positive, is_positive_kind, settle, behind, behind_settled, have, atom, term_in, negate_to, may_couple, round_mode}
use Rattle.tptp_syntax.proofs.Runs.{full, set, rank, Ends, ends_less, Leads, on, last_on, both, alike, alike_above, and_alike}
use Rattle.tptp_syntax.proofs.CompleteTerms.{term_runs, term_keeps, back}

-- ---- what is open where a part begins

-- a part may stand here
abbrev pub is_place : List Frame → Bool
is_place (frame.Args f ts ∷ k) = false
is_place (frame.Side b u ∷ k) = false
is_place _ = true

pub record Fits (k : Kind) (fr : List Frame) : Type 0 where
  pub positive : is_positive fr ≡ is_positive_kind k
  pub place : is_place fr ≡ true

pub first_fits : (c : Bool) (fr : List Frame) → is_outset fr ≡ true → Fits (first_kind c) fr
first_fits true [] h = record { positive = refl; place = refl }
first_fits false [] h = record { positive = refl; place = refl }
first_fits true (frame.Round ∷ fr) h = record { positive = refl; place = refl }
first_fits false (frame.Round ∷ fr) h = record { positive = refl; place = refl }
first_fits c (frame.Args f ts ∷ fr) h = cc
first_fits c (frame.Side b u ∷ fr) h = cc
first_fits c (frame.Not b ∷ fr) h = cc
first_fits c (frame.Bind q ∷ fr) h = cc
first_fits c (frame.Join o a ∷ fr) h = cc
first_fits c (frame.Couple o a ∷ fr) h = cc
first_fits c (frame.Group b s ∷ fr) h = cc

pub first_clausal : (c : Bool) → is_clausal (first_kind c) ≡ c
first_clausal true = refl
first_clausal false = refl

pub join_fits : (c : Bool) (o : Chain) (a : FoFormula) (fr : List Frame) → Fits (first_kind c) (frame.Join o a ∷ fr)
join_fits true o a fr = record { positive = refl; place = refl }
join_fits false o a fr = record { positive = refl; place = refl }

not_fits : (k j : Kind) (fr : List Frame) → negated k ≡ Some j → Fits j (frame.Not (is_positive_kind j) ∷ fr)
not_fits k j fr h = record { positive = refl; place = refl }

pub negated_clausal : (k j : Kind) → negated k ≡ Some j → is_clausal k ≡ is_clausal j
negated_clausal kind.Unit j h = let e : kind.Unit ≡ j = cc in ap is_clausal e
negated_clausal kind.Literal j h = let e : kind.Positive ≡ j = cc in ap is_clausal e
negated_clausal kind.Positive j h = cc

-- ---- settled parts

unit_settles : (m : Mode) (a : FoFormula) (fr : List Frame) (vs : List ℕ) → is_outset fr ≡ true → settle m a fr vs ≡ record { mode = m; formula = a; frames = fr; scope = vs }
unit_settles (mode.Chained o) a fr vs h = refl
unit_settles mode.Ended a fr vs h = refl
unit_settles mode.Fresh a [] vs h = refl
unit_settles mode.Fresh a (frame.Round ∷ fr) vs h = refl
unit_settles mode.Fresh a (frame.Args f ts ∷ fr) vs h = cc
unit_settles mode.Fresh a (frame.Side b u ∷ fr) vs h = cc
unit_settles mode.Fresh a (frame.Not b ∷ fr) vs h = cc
unit_settles mode.Fresh a (frame.Bind q ∷ fr) vs h = cc
unit_settles mode.Fresh a (frame.Join o b ∷ fr) vs h = cc
unit_settles mode.Fresh a (frame.Couple o b ∷ fr) vs h = cc
unit_settles mode.Fresh a (frame.Group b s ∷ fr) vs h = cc

pub have_is : (r : Reader) (t : Table) (fr : List Frame) (m : Mode) (a : FoFormula) (x : Tok) → is_outset fr ≡ true → have (set r t fr) m a x ≡ behind (set r t fr) m a x
have_is r t fr m a x h = ap (λ s. behind_settled (set r t fr) s x) (unit_settles m a fr t.variables h)

behind_ended : (r : Reader) (m : Mode) (a : FoFormula) (x : Tok) → 3 < rank x → behind r m a x ≡ behind r mode.Ended a x
behind_ended r m a (tok.Chain o) h = absurd (omega arith)
behind_ended r m a (tok.Pair c) h = absurd (omega arith)
behind_ended r m a x h = refl

-- a formula that nothing goes on with is whole
whole : (l : ℕ) (r : Reader) (t : Table) (fr : List Frame) (m : Mode) (a : FoFormula) (rest : List Tok) → is_outset fr ≡ true → Ends 3 rest →
    run (full l (set r t fr) (spot.Have m a)) rest ≡ run (full l (set r t fr) (spot.Have mode.Ended a)) rest
whole l r t fr m a rest h ends = alike_above 3 (full l (set r t fr) (spot.Have m a)) (full l (set r t fr) (spot.Have mode.Ended a)) rest refl
    (λ x above. ap (λ o. counted l x o) (have_is r t fr m a x h ∙ behind_ended (set r t fr) m a x above ∙ sym (have_is r t fr mode.Ended a x h))) ends

-- ---- a term as a part

term_alone : (r : Reader) (u : FoTerm) (x : Tok) (fr : List Frame) → is_place fr ≡ true → term_in r u x fr ≡ atom r u x
term_alone r u x (frame.Args f ts ∷ fr) h = cc
term_alone r u x (frame.Side b v ∷ fr) h = cc
term_alone r u x [] h = refl
term_alone r u x (frame.Not c ∷ fr) h = refl
term_alone r u x (frame.Bind q ∷ fr) h = refl
term_alone r u x (frame.Join o a ∷ fr) h = refl
term_alone r u x (frame.Couple o a ∷ fr) h = refl
term_alone r u x (frame.Round ∷ fr) h = refl
term_alone r u x (frame.Group b s ∷ fr) h = refl

atom_holds : (r : Reader) (u : FoTerm) (x : Tok) → 2 < rank x → is_symbol u ≡ true → atom r u x ≡ have r mode.Fresh (formula.Atom (Holds u)) x
atom_holds r u (tok.Equal b) above h = absurd (omega arith)
atom_holds r u x above h = ap (λ b. if b then have r mode.Fresh (formula.Atom (Holds u)) x else None) h

holding : (l : ℕ) (r : Reader) (t : Table) (fr : List Frame) (u : FoTerm) (rest : List Tok) → is_place fr ≡ true → is_symbol u ≡ true → Ends 2 rest →
    run (full l (set r t fr) (spot.Term u)) rest ≡ run (full l (set r t fr) (spot.Have mode.Fresh (formula.Atom (Holds u)))) rest
holding l r t fr u rest place h ends = alike_above 2 (full l (set r t fr) (spot.Term u)) (full l (set r t fr) (spot.Have mode.Fresh (formula.Atom (Holds u)))) rest refl
    (λ x above. ap (λ o. counted l x o) (term_alone (set r t fr) u x fr place ∙ atom_holds (set r t fr) u x above h)) ends

may_differ : (k : Kind) (b : Bool) → may_equal k b ≡ true → (b || not (is_positive_kind k)) ≡ true
may_differ kind.Positive true h = refl
may_differ kind.Positive false h = cc
may_differ kind.Unit true h = refl
may_differ kind.Unit false h = refl
may_differ kind.Literal true h = refl
may_differ kind.Literal false h = refl

equal_step : (l : ℕ) (r : Reader) (t : Table) (fr : List Frame) (k : Kind) (u : FoTerm) (b : Bool) → Fits k fr → may_equal k b ≡ true →
    step (full l (set r t fr) (spot.Term u)) (tok.Equal b) ≡ Some (record { level = 0; state = full l (set r t (frame.Side b u ∷ fr)) spot.WantTerm })
equal_step l r t fr k u b fits h =
    ap (λ o. counted l (tok.Equal b) o) (
    term_alone (set r t fr) u (tok.Equal b) fr fits.place
    ∙ ap (λ y. if y then to (set r t (frame.Side b u ∷ fr)) spot.WantTerm else None) (ap (λ y. b || not y) fits.positive ∙ may_differ k b h)
    )

-- ---- what stands behind a part

abbrev BehindPart : Sort → List Placed → Type 0
BehindPart (Rest c m a) p = (rest : List Tok) → Ends 3 rest → Ends 2 (put p rest)
BehindPart _ p = Unit {0}

behind_part : {l : ℕ} {s : Sort} {t t' : Table} {p : List Placed} {a : FoFormula} → IsFormula l s t p a t' → BehindPart s p
behind_part (g.truth_word b) = tt
behind_part (g.holds d h) = tt
behind_part (g.equal d b h e) = tt
behind_part (g.negation h d) = tt
behind_part (g.quantifier d) = tt
behind_part (g.another d) = tt
behind_part (g.last d) = tt
behind_part (g.round d) = tt
behind_part (g.clause d) = tt
behind_part (g.joined d e) = tt
behind_part g.nothing = λ rest h. ends_less 2 3 rest (omega arith) h
behind_part (g.coupled d) = λ rest h. omega arith
behind_part (g.chained h d e) = λ rest h. omega arith

-- ---- in a `fof` statement a formula binds nothing outside

abbrev is_clausal_sort : Sort → Bool
is_clausal_sort (Start k) = is_clausal k
is_clausal_sort (Bound q) = false
is_clausal_sort (Formula c) = c
is_clausal_sort (Rest c m a) = c

pub formula_keeps : {l : ℕ} {s : Sort} {t t' : Table} {p : List Placed} {a : FoFormula} → IsFormula l s t p a t' → is_clausal_sort s ≡ false → t'.variables ≡ t.variables
formula_keeps (g.truth_word b) is = refl
formula_keeps (g.holds d h) is = term_keeps d is
formula_keeps (g.equal d b h e) is = term_keeps e is ∙ term_keeps d is
formula_keeps (g.negation {k = k} {j = j} h d) is = formula_keeps d (sym (negated_clausal k j h) ∙ is)
formula_keeps (g.quantifier d) is = formula_keeps d refl
formula_keeps (g.another d) is = refl
formula_keeps (g.last d) is = refl
formula_keeps (g.round d) is = formula_keeps d refl
formula_keeps (g.clause d) is = cc
formula_keeps (g.joined {c = c} d e) is = formula_keeps e is ∙ formula_keeps d (first_clausal c ∙ is)
formula_keeps g.nothing is = refl
formula_keeps (g.coupled d) is = formula_keeps d refl
formula_keeps (g.chained {c = c} h d e) is = formula_keeps e is ∙ formula_keeps d (first_clausal c ∙ is)

-- ---- quantifiers

-- the part that a quantifier takes
bound_settles : (l : ℕ) (r : Reader) (t t' : Table) (fr : List Frame) (q : Quant) (x : ℕ) (a : FoFormula) (rest : List Tok) → t'.variables ≡ x ∷ t.variables →
    run (full l (set r t' (frame.Bind q ∷ fr)) (spot.Have mode.Fresh a)) rest ≡ run (full l (set r (outside t t') fr) (spot.Have mode.Fresh (quantified q (length t.variables) a))) rest
bound_settles l r t t' fr q x a rest is = alike (full l (set r t' (frame.Bind q ∷ fr)) (spot.Have mode.Fresh a)) (full l (set r (outside t t') fr) (spot.Have mode.Fresh (quantified q (length t.variables) a))) rest refl
    (λ y. ap (λ vs. counted l y (behind_settled (set r t' fr) (settle mode.Fresh (quantified q (length (inner vs)) a) fr (inner vs)) y)) is)

-- ---- the walk

abbrev pub FormulaRuns : ℕ → Sort → Table → List Placed → FoFormula → Table → Type 0
FormulaRuns l (Start k) t p a t' = (r : Reader) (fr : List Frame) (rest : List Tok) → r.clausal ≡ is_clausal k → Fits k fr → Ends 2 rest →
    Leads (full l (set r t fr) (spot.Want k)) p (full l (set r t' fr) (spot.Have mode.Fresh a)) rest
FormulaRuns l (Bound q) t p a t' = (r : Reader) (fr : List Frame) (rest : List Tok) → r.clausal ≡ false → Ends 2 rest →
    Leads (full (l + 1) (set r t fr) (spot.Variable q)) p (full l (set r t' fr) (spot.Have mode.Fresh a)) rest
FormulaRuns l (Formula c) t p a t' = (r : Reader) (fr : List Frame) (rest : List Tok) → r.clausal ≡ c → is_outset fr ≡ true → Ends 3 rest →
    Leads (full l (set r t fr) (spot.Want (first_kind c))) p (full l (set r t' fr) (spot.Have mode.Ended a)) rest
FormulaRuns l (Rest c m b) t p a t' = (r : Reader) (fr : List Frame) (rest : List Tok) → r.clausal ≡ c → is_outset fr ≡ true → Ends 3 rest →
    Leads (full l (set r t fr) (spot.Have m b)) p (full l (set r t' fr) (spot.Have mode.Ended a)) rest

negate_step : (l : ℕ) (r : Reader) (t : Table) (fr : List Frame) (k j : Kind) → negated k ≡ Some j →
    step (full l (set r t fr) (spot.Want k)) tok.Tilde ≡ Some (record { level = 0; state = full l (set r t (frame.Not (is_positive_kind j) ∷ fr)) (spot.Want j) })
negate_step l r t fr k j h = ap (λ o. counted l tok.Tilde (negate_to (set r t fr) o)) h

couple_step : (l : ℕ) (r : Reader) (t : Table) (fr : List Frame) (c : Pair) (a : FoFormula) → r.clausal ≡ false → is_outset fr ≡ true →
    step (full l (set r t fr) (spot.Have mode.Fresh a)) (tok.Pair c) ≡ Some (record { level = 0; state = full l (set r t (frame.Couple c a ∷ fr)) (spot.Want kind.Unit) })
couple_step l r t fr c a is h =
    ap (λ o. counted l (tok.Pair c) o) (have_is r t fr mode.Fresh a (tok.Pair c) h ∙ ap (λ b. if may_couple b mode.Fresh then to (set r t (frame.Couple c a ∷ fr)) (spot.Want kind.Unit) else None) is)

chain_step : (l : ℕ) (r : Reader) (t : Table) (fr : List Frame) (c : Bool) (m : Mode) (o : Chain) (a : FoFormula) → r.clausal ≡ c → is_outset fr ≡ true → may_join c m o ≡ true →
    step (full l (set r t fr) (spot.Have m a)) (tok.Chain o) ≡ Some (record { level = 0; state = full l (set r t (frame.Join o a ∷ fr)) (spot.Want (first_kind c)) })
chain_step l r t fr c m o a is h may =
    ap (λ y. counted l (tok.Chain o) y) (
    have_is r t fr m a (tok.Chain o) h
    ∙ ap (λ b. if may_join b m o then to (set r t (frame.Join o a ∷ fr)) (spot.Want (first_kind b)) else None) is
    ∙ ap (λ b. if b then to (set r t (frame.Join o a ∷ fr)) (spot.Want (first_kind c)) else None) may
    )

close_step : (l : ℕ) (r : Reader) (t : Table) (fr : List Frame) (c : Bool) (a : FoFormula) → r.clausal ≡ c →
    step (full (l + 1) (set r t (frame.Round ∷ fr)) (spot.Have mode.Ended a)) (tok.Close false) ≡ Some (record { level = 0; state = full l (set r t fr) (spot.Have (round_mode c) a) })
close_step l r t fr c a is = ap (λ b. counted (l + 1) (tok.Close false) (to (set r t fr) (spot.Have (round_mode b) a))) is
    ∙ ap (λ n. Some (record { level = 0; state = full n (set r t fr) (spot.Have (round_mode c) a) })) (back l)

open_clause : (l : ℕ) (r : Reader) (t : Table) (fr : List Frame) → is_outset fr ≡ true →
    step (full l (set r t fr) (spot.Want kind.Literal)) (tok.Open false) ≡ Some (record { level = l + 1; state = full (l + 1) (set r t (frame.Round ∷ fr)) (spot.Want kind.Literal) })
open_clause l r t fr h = ap (λ b. counted l (tok.Open false) (if b then to (set r t (frame.Round ∷ fr)) (spot.Want kind.Literal) else None)) h

last_close : (l : ℕ) (r : Reader) (q : Quant) → step (full (l + 1) r (spot.VariableEnd q)) (tok.Close true) ≡ Some (record { level = 0; state = full l r spot.Colon })
last_close l r q = ap (λ n. Some (record { level = 0; state = full n r spot.Colon })) (back l)

pub formula_runs : {l : ℕ} {s : Sort} {t t' : Table} {p : List Placed} {a : FoFormula} → IsFormula l s t p a t' → FormulaRuns l s t p a t'
formula_runs {l = l} {t = t} (g.truth_word {k = k} b) = λ r fr rest is fits ends.
    last_on (full l (set r t fr) (spot.Want k)) (full l (set r t fr) (spot.Have mode.Fresh (truth b))) 0 (tok.Truth b) rest refl
formula_runs {l = l} {t = t} {t' = t'} {p = p} (g.holds {k = k} {u = u} d h) = λ r fr rest is fits ends.
    and_alike (full l (set r t fr) (spot.Want k)) (full l (set r t' fr) (spot.Term u)) (full l (set r t' fr) (spot.Have mode.Fresh (formula.Atom (Holds u)))) p rest (term_runs d r fr (Some k) rest is (ends_less 1 2 rest (omega arith) ends)) (holding l r t' fr u rest fits.place h ends)
formula_runs {l = l} {t = t} {t' = t''} (g.equal {k = k} {t' = t'} {p = p} {q = q} {u = u} {v = v} d b h e) = λ r fr rest is fits ends.
    let left = full l (set r t' fr) (spot.Term u) in
    let due_right = full l (set r t' (frame.Side b u ∷ fr)) spot.WantTerm in
    let right = full l (set r t'' (frame.Side b u ∷ fr)) (spot.Term v) in
    let done = full l (set r t'' fr) (spot.Have mode.Fresh (equation b u v)) in
    let second = term_runs e r (frame.Side b u ∷ fr) None rest is (ends_less 1 2 rest (omega arith) ends) in
    both (full l (set r t fr) (spot.Want k)) left done p (at 0 (tok.Equal b) ∷ q) rest (term_runs d r fr (Some k) (put (at 0 (tok.Equal b) ∷ q) rest) is (omega arith))
    (on left due_right done 0 (tok.Equal b) q rest (equal_step l r t' fr k u b fits h) (and_alike due_right right done q rest second (alike right done rest refl (λ x. refl))))
formula_runs {l = l} {t = t} {t' = t'} (g.negation {k = k} {j = j} {p = p} {a = a} h d) = λ r fr rest is fits ends.
    let under = frame.Not (is_positive_kind j) ∷ fr in
    let inside = full l (set r t under) (spot.Want j) in
    let part = full l (set r t' under) (spot.Have mode.Fresh a) in
    let done = full l (set r t' fr) (spot.Have mode.Fresh (formula.Not a)) in
    on (full l (set r t fr) (spot.Want k)) inside done 0 tok.Tilde p rest (negate_step l r t fr k j h)
    (and_alike inside part done p rest (formula_runs d r under rest (is ∙ negated_clausal k j h) (not_fits k j fr h) ends) (alike part done rest refl (λ x. refl)))
formula_runs {l = l} {t = t} {t' = t'} {a = a} (g.quantifier {q = q} {p = p} d) = λ r fr rest is fits ends.
    let square = full l (set r t fr) (spot.Square q) in
    let variables = full (l + 1) (set r t fr) (spot.Variable q) in
    let done = full l (set r t' fr) (spot.Have mode.Fresh a) in
    on (full l (set r t fr) (spot.Want kind.Unit)) square done 0 (tok.Quant q) (at (l + 1) (tok.Open true) ∷ p) rest refl (on square variables done (l + 1) (tok.Open true) p rest refl (formula_runs d r fr rest is ends))
formula_runs {l = l} {t = t} (g.another {x = x} {q = q} {t' = t'} {p = p} {a = a} d) = λ r fr rest is ends.
    let under = frame.Bind q ∷ fr in
    let end_ = full (l + 1) (set r (bind x t) under) (spot.VariableEnd q) in
    let next = full (l + 1) (set r (bind x t) under) (spot.Variable q) in
    let part = full l (set r t' under) (spot.Have mode.Fresh a) in
    let done = full l (set r (outside t t') fr) (spot.Have mode.Fresh (quantified q (length t.variables) a)) in
    on (full (l + 1) (set r t fr) (spot.Variable q)) end_ done 0 (tok.Upper x) (at 0 tok.Comma ∷ p) rest refl (on end_ next done 0 tok.Comma p rest refl
    (and_alike next part done p rest (formula_runs d r under rest is ends) (bound_settles l r t t' fr q x a rest (formula_keeps d refl))))
formula_runs {l = l} {t = t} (g.last {x = x} {q = q} {t' = t'} {p = p} {a = a} d) = λ r fr rest is ends.
    let under = frame.Bind q ∷ fr in
    let end_ = full (l + 1) (set r (bind x t) under) (spot.VariableEnd q) in
    let colon = full l (set r (bind x t) under) spot.Colon in
    let body = full l (set r (bind x t) under) (spot.Want kind.Unit) in
    let part = full l (set r t' under) (spot.Have mode.Fresh a) in
    let done = full l (set r (outside t t') fr) (spot.Have mode.Fresh (quantified q (length t.variables) a)) in
    let fits : Fits kind.Unit under = record { positive = refl; place = refl } in
    on (full (l + 1) (set r t fr) (spot.Variable q)) end_ done 0 (tok.Upper x) (at 0 (tok.Close true) ∷ at 0 tok.Colon ∷ p) rest refl
    (on end_ colon done 0 (tok.Close true) (at 0 tok.Colon ∷ p) rest (last_close l (set r (bind x t) under) q)
    (on colon body done 0 tok.Colon p rest refl (and_alike body part done p rest (formula_runs d r under rest is fits ends) (bound_settles l r t t' fr q x a rest (formula_keeps d refl)))))
formula_runs {l = l} {t = t} {t' = t'} {a = a} (g.round {p = p} d) = λ r fr rest is fits ends.
    let under = frame.Round ∷ fr in
    let inside = full (l + 1) (set r t under) (spot.Want kind.Unit) in
    let part = full (l + 1) (set r t' under) (spot.Have mode.Ended a) in
    let done = full l (set r t' fr) (spot.Have mode.Fresh a) in
    on (full l (set r t fr) (spot.Want kind.Unit)) inside done (l + 1) (tok.Open false) (p ++ at 0 (tok.Close false) ∷ []) rest refl
    (both inside part done p (at 0 (tok.Close false) ∷ []) rest (formula_runs d r under (tok.Close false ∷ rest) is refl (omega arith)) (last_on part done 0 (tok.Close false) rest (close_step l r t' fr false a is)))
formula_runs {l = l} {t = t} {t' = t'} {a = a} (g.clause {p = p} d) = λ r fr rest is h ends.
    let under = frame.Round ∷ fr in
    let inside = full (l + 1) (set r t under) (spot.Want kind.Literal) in
    let part = full (l + 1) (set r t' under) (spot.Have mode.Ended a) in
    let done = full l (set r t' fr) (spot.Have mode.Ended a) in
    on (full l (set r t fr) (spot.Want kind.Literal)) inside done (l + 1) (tok.Open false) (p ++ at 0 (tok.Close false) ∷ []) rest (open_clause l r t fr h)
    (both inside part done p (at 0 (tok.Close false) ∷ []) rest (formula_runs d r under (tok.Close false ∷ rest) is refl (omega arith)) (last_on part done 0 (tok.Close false) rest (close_step l r t' fr true a is)))
formula_runs {l = l} {t = t} {t' = t''} (g.joined {c = c} {t' = t'} {p = p} {q = q} {a = a} {b = b} d e) = λ r fr rest is h ends.
    both (full l (set r t fr) (spot.Want (first_kind c))) (full l (set r t' fr) (spot.Have mode.Fresh a)) (full l (set r t'' fr) (spot.Have mode.Ended b)) p q rest
    (formula_runs d r fr (put q rest) (is ∙ sym (first_clausal c)) (first_fits c fr h) (behind_part e rest ends)) (formula_runs e r fr rest is h ends)
formula_runs {l = l} {t = t} (g.nothing {m = m} {a = a}) = λ r fr rest is h ends. whole l r t fr m a rest h ends
formula_runs {l = l} {t = t} {t' = t'} (g.coupled {c = c} {a = a} {b = b} {p = p} d) = λ r fr rest is h ends.
    let under = frame.Couple c a ∷ fr in
    let inside = full l (set r t under) (spot.Want kind.Unit) in
    let part = full l (set r t' under) (spot.Have mode.Fresh b) in
    let done = full l (set r t' fr) (spot.Have mode.Ended (couple c a b)) in
    let fits : Fits kind.Unit under = record { positive = refl; place = refl } in
    on (full l (set r t fr) (spot.Have mode.Fresh a)) inside done 0 (tok.Pair c) p rest (couple_step l r t fr c a is h)
    (and_alike inside part done p rest (formula_runs d r under rest is fits (ends_less 2 3 rest (omega arith) ends)) (alike part done rest refl (λ x. refl)))
formula_runs {l = l} {t = t} {t' = t''} (g.chained {c = c} {m = m} {o = o} {a = a} {b = b} {d = z} {t' = t'} {p = p} {q = q} may d e) = λ r fr rest is h ends.
    let under = frame.Join o a ∷ fr in
    let inside = full l (set r t under) (spot.Want (first_kind c)) in
    let part = full l (set r t' under) (spot.Have mode.Fresh b) in
    let more = full l (set r t' fr) (spot.Have (mode.Chained o) (join o a b)) in
    let done = full l (set r t'' fr) (spot.Have mode.Ended z) in
    let ends_part = behind_part e rest ends in
    on (full l (set r t fr) (spot.Have m a)) inside done 0 (tok.Chain o) (p ++ q) rest (chain_step l r t fr c m o a is h may)
    (both inside more done p q rest
    (and_alike inside part more p (put q rest) (formula_runs d r under (put q rest) (is ∙ sym (first_clausal c)) (join_fits c o a fr) ends_part) (alike part more (put q rest) refl (λ x. refl)))
    (formula_runs e r fr rest is h ends))
