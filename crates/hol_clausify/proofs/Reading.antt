-- A formula tells the term that it was read from.
use Rattle.std.proofs.Common.{◌≡◌, Bool, true, false, if◌then◌else◌, ap, subst, refl, sym, ◌∙◌, ℕ}
use Rattle.hol_terms.specs.declared.ty.Ty.{Ty}
use Rattle.hol_terms.specs.declared.konst.Konst.{Konst}
use Rattle.hol_terms.specs.declared.konst.Konst.TheVariants as konst
use Rattle.hol_terms.specs.declared.term.Term.{Term, roll-Term}
use Rattle.hol_terms.specs.declared.term.Term.TheOpen.{Term-F}
use Rattle.hol_terms.specs.declared.term.Term.TheFolds.{fold-roll-Term}
use Rattle.hol_terms.specs.Types.{is_ty, bool_ty}
use Rattle.hol_terms.proofs.TermCases.{by_cases}
use Rattle.hol_terms.proofs.TyCases.{is_ty_same}
use Rattle.kernel_rules.specs.Connectives.{apply, lambda, constant, verum, falsum, neg}
use Rattle.hol_formulas.specs.declared.formula.Junction.{Junction}
use Rattle.hol_formulas.specs.declared.formula.Junction.TheVariants as junctions
use Rattle.hol_formulas.specs.declared.formula.Quantifier.{Quantifier}
use Rattle.hol_formulas.specs.declared.formula.Quantifier.TheVariants as quantifiers
use Rattle.hol_formulas.specs.declared.formula.Formula.{Formula, roll-Formula}
use Rattle.hol_formulas.specs.declared.formula.Formula.TheOpen.{Formula-F}
use Rattle.hol_formulas.specs.declared.formula.Formula.TheFolds.{fold-roll-Formula}
use Rattle.hol_formulas.specs.declared.reading.Head.{Head}
use Rattle.hol_formulas.specs.declared.reading.Head.TheVariants.{Plain, Negation, Junction as Joining, Half, Quantifier as Quantifying, Abstraction}
use Rattle.hol_formulas.specs.declared.reading.Reading.{Reading}
use Rattle.hol_formulas.specs.Formulas.{atom, konst_head, konst_formula, quantified, app_formula, app_head, app_reading, lam_reading, reading, read_step, formula_of}
use Rattle.hol_clausify.specs.Places.{junction, quantifier, term_of, term_step}

-- ---- the term of each kind of formula
pub term-true : term_of (roll-Formula Formula-F.True) ≡ verum
term-true = fold-roll-Formula Term term_step Formula-F.True

pub term-false : term_of (roll-Formula Formula-F.False) ≡ falsum
term-false = fold-roll-Formula Term term_step Formula-F.False

pub term-atom : (t : Term) → term_of (atom t) ≡ t
term-atom t = fold-roll-Formula Term term_step (Formula-F.Atom t)

pub term-not : (a : Formula) → term_of (roll-Formula (Formula-F.Not a)) ≡ neg (term_of a)
term-not a = fold-roll-Formula Term term_step (Formula-F.Not a)

pub term-two : (j : Junction) (a b : Formula) → term_of (roll-Formula (Formula-F.Two j a b)) ≡ junction j (term_of a) (term_of b)
term-two j a b = fold-roll-Formula Term term_step (Formula-F.Two j a b)

pub term-quantified : (q : Quantifier) (a : Ty) (t : Term) (b : Formula) → term_of (roll-Formula (Formula-F.Quantified q a t b)) ≡ quantifier q a (lambda a t)
term-quantified q a t b = fold-roll-Formula Term term_step (Formula-F.Quantified q a t b)

-- ---- what a head says of the term
abbrev pub junction_konst : Junction → Konst
junction_konst junctions.And = konst.And
junction_konst junctions.Or = konst.Or
junction_konst junctions.Imp = konst.Imp
junction_konst junctions.Iff = konst.Eq bool_ty

abbrev pub quantifier_konst : Quantifier → Ty → Konst
quantifier_konst quantifiers.All a = konst.All a
quantifier_konst quantifiers.Ex a = konst.Ex a

pub junction_is : (j : Junction) (a b : Term) → junction j a b ≡ apply (apply (constant (junction_konst j)) a) b
junction_is junctions.And a b = refl
junction_is junctions.Or a b = refl
junction_is junctions.Imp a b = refl
junction_is junctions.Iff a b = refl

pub quantifier_is : (q : Quantifier) (a : Ty) (f : Term) → quantifier q a f ≡ apply (constant (quantifier_konst q a)) f
quantifier_is quantifiers.All a f = refl
quantifier_is quantifiers.Ex a f = refl

abbrev pub Heads : Head → Term → Type 0
Heads Plain t = Unit {0}
Heads Negation t = t ≡ constant konst.Not
Heads (Joining j) t = t ≡ constant (junction_konst j)
Heads (Half j f) t = t ≡ apply (constant (junction_konst j)) (term_of f)
Heads (Quantifying q a) t = t ≡ constant (quantifier_konst q a)
Heads (Abstraction a b f) t = t ≡ lambda a b

pub record Reads (r : Reading) (t : Term) : Type 0 where
  pub own : r.own ≡ t
  pub formula : term_of r.formula ≡ t
  pub head : Heads r.head t

-- ---- constants
iff_head : (a : Ty) (b : Bool) → is_ty a bool_ty ≡ b → Heads (if b then Joining junctions.Iff else Plain) (constant (konst.Eq a))
iff_head a true h = ap (λ c. constant (konst.Eq c)) (is_ty_same a bool_ty h)
iff_head a false h = tt

konst_heads : (k : Konst) → Heads (konst_head k) (constant k)
konst_heads konst.Not = refl
konst_heads konst.And = refl
konst_heads konst.Or = refl
konst_heads konst.Imp = refl
konst_heads (konst.Eq a) = iff_head a (is_ty a bool_ty) refl
konst_heads (konst.All a) = refl
konst_heads (konst.Ex a) = refl
konst_heads (konst.Eps a) = tt
konst_heads (konst.Named n) = tt
konst_heads (konst.Aux n) = tt
konst_heads konst.True = tt
konst_heads konst.False = tt

konst_term : (k : Konst) → term_of (konst_formula k) ≡ constant k
konst_term konst.True = term-true
konst_term konst.False = term-false
konst_term konst.Not = term-atom (constant konst.Not)
konst_term konst.And = term-atom (constant konst.And)
konst_term konst.Or = term-atom (constant konst.Or)
konst_term konst.Imp = term-atom (constant konst.Imp)
konst_term (konst.Eq a) = term-atom (constant (konst.Eq a))
konst_term (konst.All a) = term-atom (constant (konst.All a))
konst_term (konst.Ex a) = term-atom (constant (konst.Ex a))
konst_term (konst.Eps a) = term-atom (constant (konst.Eps a))
konst_term (konst.Named n) = term-atom (constant (konst.Named n))
konst_term (konst.Aux n) = term-atom (constant (konst.Aux n))

-- ---- applications
own_quantified : (q : Quantifier) (a b : Ty) (t y own : Term) (f : Formula) (c : Bool) → is_ty a b ≡ c → y ≡ lambda b t → own ≡ apply (constant (quantifier_konst q a)) y →
    term_of (if c then roll-Formula (Formula-F.Quantified q b t f) else atom own) ≡ own
own_quantified q a b t y own f true h e is =
    let same : a ≡ b = is_ty_same a b h in
    term-quantified q b t f ∙ quantifier_is q b (lambda b t) ∙ (λ i. apply (constant (quantifier_konst q (sym same i))) (sym e i)) ∙ sym is
own_quantified q a b t y own f false h e is = term-atom own

quantified_term : (q : Quantifier) (a : Ty) (h : Head) (y own : Term) → Heads h y → own ≡ apply (constant (quantifier_konst q a)) y → term_of (quantified q a h own) ≡ own
quantified_term q a (Abstraction b t f) y own h is = own_quantified q a b t y own f (is_ty a b) refl h is
quantified_term q a Plain y own h is = term-atom own
quantified_term q a Negation y own h is = term-atom own
quantified_term q a (Joining j) y own h is = term-atom own
quantified_term q a (Half j f) y own h is = term-atom own
quantified_term q a (Quantifying p b) y own h is = term-atom own

app_term : (h : Head) (x : Reading) (f y own : Term) → Heads h f → Reads x y → own ≡ apply f y → term_of (app_formula h x own) ≡ own
app_term Negation x f y own h r is = term-not x.formula ∙ (λ i. apply (sym h i) (r.formula i)) ∙ sym is
app_term (Half j left) x f y own h r is =
    term-two j left x.formula ∙ junction_is j (term_of left) (term_of x.formula) ∙ (λ i. apply (sym h i) (r.formula i)) ∙ sym is
app_term (Quantifying q a) x f y own h r is = quantified_term q a x.head y own r.head (is ∙ ap (λ g. apply g y) h)
app_term Plain x f y own h r is = term-atom own
app_term (Joining j) x f y own h r is = term-atom own
app_term (Abstraction a b g) x f y own h r is = term-atom own

app_heads : (h : Head) (x : Reading) (f y : Term) → Heads h f → Reads x y → Heads (app_head h x) (apply f y)
app_heads (Joining j) x f y h r = λ i. apply (h i) (sym r.formula i)
app_heads Plain x f y h r = tt
app_heads Negation x f y h r = tt
app_heads (Half j left) x f y h r = tt
app_heads (Quantifying q a) x f y h r = tt
app_heads (Abstraction a b g) x f y h r = tt

app_reads : (r s : Reading) (f x : Term) → Reads r f → Reads s x → Reads (app_reading r s) (apply f x)
app_reads r s f x g y =
    let is : apply r.own s.own ≡ apply f x = (λ i. apply (g.own i) (y.own i)) in
    record {
      own = is;
      formula = app_term r.head s f x (apply r.own s.own) g.head y is ∙ is;
      head = app_heads r.head s f x g.head y;
    }

lam_reads : (a : Ty) (r : Reading) (b : Term) → Reads r b → Reads (lam_reading a r) (lambda a b)
lam_reads a r b g =
    let is : lambda a r.own ≡ lambda a b = ap (lambda a) g.own in record { own = is; formula = term-atom (lambda a r.own) ∙ is; head = sym is }

-- ---- all terms
abbrev pub Read : Term → Type 0
Read t = Reads (reading t) t

reading_is : (x : Term-F Term) (r : Reading) → reading (roll-Term x) ≡ r → Reads r (roll-Term x) → Read (roll-Term x)
reading_is x r e h = subst (λ q. Reads q (roll-Term x)) (sym e) h

simple_read : (t : Term) → Reads (record { own = t; formula = atom t; head = Plain }) t
simple_read t = record { own = refl; formula = term-atom t; head = tt }

pub reading-con : (k : Konst) → reading (constant k) ≡ record { own = constant k; formula = konst_formula k; head = konst_head k }
reading-con k = fold-roll-Term Reading read_step (Term-F.Con k)

pub reading-app : (f x : Term) → reading (apply f x) ≡ app_reading (reading f) (reading x)
reading-app f x = fold-roll-Term Reading read_step (Term-F.App f x)

pub reading-lam : (a : Ty) (b : Term) → reading (lambda a b) ≡ lam_reading a (reading b)
reading-lam a b = fold-roll-Term Reading read_step (Term-F.Lam a b)

read_bound : (i : ℕ) → Read (roll-Term (Term-F.Bound i))
read_bound i = reading_is (Term-F.Bound i) _ (fold-roll-Term Reading read_step (Term-F.Bound i)) (simple_read (roll-Term (Term-F.Bound i)))

read_free : (n : ℕ) (a : Ty) → Read (roll-Term (Term-F.Free n a))
read_free n a = reading_is (Term-F.Free n a) _ (fold-roll-Term Reading read_step (Term-F.Free n a)) (simple_read (roll-Term (Term-F.Free n a)))

read_con : (k : Konst) → Read (constant k)
read_con k = reading_is (Term-F.Con k) _ (reading-con k) (record { own = refl; formula = konst_term k; head = konst_heads k })

read_app : (f x : Term) → Read f → Read x → Read (apply f x)
read_app f x hf hx = reading_is (Term-F.App f x) _ (reading-app f x) (app_reads (reading f) (reading x) f x hf hx)

read_lam : (a : Ty) (b : Term) → Read b → Read (lambda a b)
read_lam a b hb = reading_is (Term-F.Lam a b) _ (reading-lam a b) (lam_reads a (reading b) b hb)

pub read : (t : Term) → Read t
read t = by_cases Read read_bound read_free read_con read_app read_lam t

pub reads_back : (t : Term) → term_of (formula_of t) ≡ t
reads_back t = (read t).formula
