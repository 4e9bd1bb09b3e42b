-- Terms that are derivable are walked through.
use Rattle.std.proofs.Common.{◌≡◌, ℕ, ◌+◌, ◌-◌, ◌<◌, ◌||◌, Bool, true, false, List, [], ◌∷◌, Option, Some, None, refl, sym, ap, ◌∙◌, arith, if◌then◌else◌}
use Rattle.fo_terms.specs.declared.term.FoTerm.{FoTerm, Var, Fun}
use Rattle.tptp_syntax.specs.declared.tokens.Tok.{Tok}
use Rattle.tptp_syntax.specs.declared.tokens.Tok.TheVariants as tok
use Rattle.tptp_syntax.specs.declared.sorts.Kind.{Kind}
use Rattle.tptp_syntax.specs.declared.frames.Frame.{Frame}
use Rattle.tptp_syntax.specs.declared.frames.Frame.TheVariants as frame
use Rattle.tptp_syntax.specs.declared.reader.Spot.{Spot}
use Rattle.tptp_syntax.specs.declared.reader.Spot.TheVariants as spot
use Rattle.tptp_syntax.specs.declared.reader.Reader.{Reader}
use Rattle.tptp_syntax.specs.Grammar.{Placed, at, Table, is_bound, symbol_number, variable_number, with_symbol, with_variable, TermSort, Term, Argument, Argued, IsTerm, variable, constant, applied, argument, another, last}
use Rattle.tptp_syntax.specs.inner.Machine.{put, goes, Full, run, step, counted, to, argued, named, term, symbol, variable as variable_step}
use Rattle.tptp_syntax.proofs.Runs.{full, set, rank, Ends, Leads, on, last_on, both, alike_above, and_alike}

-- where a term is due: alone, or as a part of a formula
abbrev pub due : Option Kind → Spot
due None = spot.WantTerm
due (Some k) = spot.Want k

abbrev pub TermRuns : Bool → ℕ → TermSort → Table → List Placed → FoTerm → Table → Type 0
TermRuns free l Term t p u t' = (r : Reader) (k : List Frame) (c : Option Kind) (rest : List Tok) → r.clausal ≡ free → Ends 1 rest →
    Leads (full l (set r t k) (due c)) p (full l (set r t' k) (spot.Term u)) rest
TermRuns free l (Argument f ts) t p u t' = (r : Reader) (k : List Frame) (rest : List Tok) → r.clausal ≡ free →
    Leads (full l (set r t (frame.Args f ts ∷ k)) spot.WantTerm) p (full (l - 1) (set r t' k) (spot.Term u)) rest
TermRuns free l (Argued f ts) t p u t' = (r : Reader) (k : List Frame) (s : Full) (rest : List Tok) → r.clausal ≡ free →
    ((x : Tok) → step s x ≡ counted l x (argued (set r t k) f ts x)) → Leads s p (full (l - 1) (set r t' k) (spot.Term u)) rest

name_step : (l : ℕ) (r : Reader) (c : Option Kind) (q : Bool) (x : ℕ) → step (full l r (due c)) (tok.Name q x) ≡ counted l (tok.Name q x) (symbol r x)
name_step l r None q x = refl
name_step l r (Some k) q x = refl

upper_step : (l : ℕ) (r : Reader) (c : Option Kind) (x : ℕ) → step (full l r (due c)) (tok.Upper x) ≡ counted l (tok.Upper x) (variable_step r x)
upper_step l r None x = refl
upper_step l r (Some k) x = refl

bound_step : (l : ℕ) (r : Reader) (t : Table) (k : List Frame) (x : ℕ) (b : Bool) → (r.clausal || is_bound x t.variables) ≡ b → b ≡ true →
    counted l (tok.Upper x) (variable_step (set r t k) x) ≡ Some (record { level = 0; state = full l (set r (with_variable x t) k) (spot.Term (Var (variable_number x t.variables))) })
bound_step l r t k x b is e = ap (λ y. counted l (tok.Upper x) (if y then to (set r (with_variable x t) k) (spot.Term (Var (variable_number x t.variables))) else None)) (is ∙ e)

-- a symbol without arguments
no_arguments : (r : Reader) (f : ℕ) (x : Tok) → 1 < rank x → named r f x ≡ term r (Fun f []) x
no_arguments r f (tok.Open false) h = absurd (omega arith)
no_arguments r f x h = refl

pub alone : (l : ℕ) (r : Reader) (f : ℕ) (rest : List Tok) → Ends 1 rest → run (full l r (spot.Named f)) rest ≡ run (full l r (spot.Term (Fun f []))) rest
alone l r f rest h = alike_above 1 (full l r (spot.Named f)) (full l r (spot.Term (Fun f []))) rest refl (λ x above. ap (λ o. counted l x o) (no_arguments r f x above)) h

-- ---- what stands behind an argument begins with a comma or a bracket

abbrev BehindArgument : TermSort → List Placed → Type 0
BehindArgument (Argued f ts) p = (rest : List Tok) → Ends 1 (put p rest)
BehindArgument _ p = Unit {0}

behind_argument : {free : Bool} {l : ℕ} {s : TermSort} {t t' : Table} {p : List Placed} {u : FoTerm} → IsTerm free l s t p u t' → BehindArgument s p
behind_argument (variable h) = tt
behind_argument constant = tt
behind_argument (applied d) = tt
behind_argument (argument d e) = tt
behind_argument (another d) = λ rest. omega arith
behind_argument last = λ rest. omega arith

pub back : (l : ℕ) → l + 1 - 1 ≡ l
back l = omega arith

-- ---- the walk

pub term_runs : {free : Bool} {l : ℕ} {s : TermSort} {t t' : Table} {p : List Placed} {u : FoTerm} → IsTerm free l s t p u t' → TermRuns free l s t p u t'
term_runs {l = l} {t = t} (variable {x = x} h) = λ r k c rest is ends.
    let open_ : (r.clausal || is_bound x t.variables) ≡ true = ap (λ b. b || is_bound x t.variables) is ∙ h in
    last_on (full l (set r t k) (due c)) (full l (set r (with_variable x t) k) (spot.Term (Var (variable_number x t.variables)))) 0 (tok.Upper x) rest (upper_step l (set r t k) c x ∙ bound_step l r t k x true open_ refl)
term_runs {l = l} {t = t} (constant {x = x} {q = q}) = λ r k c rest is ends.
    let f = symbol_number x t.symbols in
    let named_ = full l (set r (with_symbol x t) k) (spot.Named f) in
    and_alike (full l (set r t k) (due c)) named_ (full l (set r (with_symbol x t) k) (spot.Term (Fun f []))) (at 0 (tok.Name q x) ∷ []) rest (last_on (full l (set r t k) (due c)) named_ 0 (tok.Name q x) rest (name_step l (set r t k) c q x)) (alone l (set r (with_symbol x t) k) f rest ends)
term_runs {l = l} {t = t} {t' = t'} {u = u} (applied {x = x} {q = q} {p = p} d) = λ r k c rest is ends.
    let f = symbol_number x t.symbols in
    let inner = full (l + 1) (set r (with_symbol x t) (frame.Args f [] ∷ k)) spot.WantTerm in
    let named_ = full l (set r (with_symbol x t) k) (spot.Named f) in
    let done = full l (set r t' k) (spot.Term u) in
    let args : Leads inner p done rest = term_runs d r k rest is ∙ ap (λ n. goes p (run (full n (set r t' k) (spot.Term u)) rest)) (back l) in
    on (full l (set r t k) (due c)) named_ done 0 (tok.Name q x) (at (l + 1) (tok.Open false) ∷ p) rest (name_step l (set r t k) c q x) (on named_ inner done (l + 1) (tok.Open false) p rest refl args)
term_runs {l = l} {t = t} {t' = t''} {u = u} (argument {f = f} {ts = ts} {t' = t'} {p = p} {q = q} {a = a} d e) = λ r k rest is.
    let inner = full l (set r t' (frame.Args f ts ∷ k)) (spot.Term a) in
    both (full l (set r t (frame.Args f ts ∷ k)) spot.WantTerm) inner (full (l - 1) (set r t'' k) (spot.Term u)) p q rest (term_runs d r (frame.Args f ts ∷ k) None (put q rest) is (behind_argument e rest)) (term_runs e r k inner rest is (λ x. refl))
term_runs {l = l} {t = t} {t' = t'} {u = u} (another {f = f} {ts = ts} {p = p} d) = λ r k s rest is steps.
    on s (full l (set r t (frame.Args f ts ∷ k)) spot.WantTerm) (full (l - 1) (set r t' k) (spot.Term u)) 0 tok.Comma p rest (steps tok.Comma) (term_runs d r k rest is)
term_runs {l = l} {t = t} (last {f = f} {ts = ts}) = λ r k s rest is steps.
    last_on s (full (l - 1) (set r t k) (spot.Term (Fun f ts))) 0 (tok.Close false) rest (steps (tok.Close false))

-- ---- in a `fof` statement a term binds nothing

if_bound : (b : Bool) (x : ℕ) (vs : List ℕ) → b ≡ true → (if b then vs else x ∷ vs) ≡ vs
if_bound true x vs h = refl
if_bound false x vs h = cc

pub term_keeps : {free : Bool} {l : ℕ} {s : TermSort} {t t' : Table} {p : List Placed} {u : FoTerm} → IsTerm free l s t p u t' → free ≡ false → t'.variables ≡ t.variables
term_keeps {t = t} (variable {x = x} h) is = if_bound (is_bound x t.variables) x t.variables (ap (λ b. b || is_bound x t.variables) (sym is) ∙ h)
term_keeps constant is = refl
term_keeps (applied d) is = term_keeps d is
term_keeps (argument d e) is = term_keeps e is ∙ term_keeps d is
term_keeps (another d) is = term_keeps d is
term_keeps last is = refl
