-- What is printed of a formula are lexemes that are cut again, and derivable as the formula.
use Rattle.std.proofs.Common.{◌≡◌, ℕ, zero, suc, ◌-◌, ◌<◌, nat_lt, Bool, true, false, ◌&&◌, IsTrue, List, [], ◌∷◌, ◌++◌, length, refl, sym, ap, subst, arith}
use Rattle.std.specs.Prelude.{codes, decimal, slice_get}
use Rattle.std.specs.Option.{option_map_or}
use Rattle.std.specs.List.{list_all}
use Rattle.std.proofs.lemmas.Bool.{ltb-true}
use Rattle.hol_terms.specs.declared.ty.Ty.{Ty, out-Ty}
use Rattle.hol_terms.specs.declared.konst.Konst.{Konst}
use Rattle.hol_terms.specs.declared.konst.Konst.TheVariants as konst
use Rattle.hol_terms.specs.declared.term.Term.{Term, roll-Term}
use Rattle.hol_terms.specs.declared.term.Term.TheOpen.{Term-F}
use Rattle.hol_terms.specs.declared.term.Term.TheFolds.{fold-roll-Term}
use Rattle.hol_terms.specs.Types.{function_ty}
use Rattle.hol_terms.proofs.Both.{both_true, and_true}
use Rattle.hol_terms.proofs.TermCases.{by_cases}
use Rattle.lambda_lift.specs.declared.table.Aux.{Aux}
use Rattle.lambda_lift.specs.Closing.{ty_at}
use Rattle.lambda_lift.specs.Equations.{result_at}
use Rattle.theory_terms.specs.declared.decl.Decl.{Decl}
use Rattle.tptp_print.specs.Numbers.{number_in}
use Rattle.tptp_print.specs.Pages.{word, type_number, pieces}
use Rattle.tptp_print.specs.Terms.{Part, part, part_step, konst_ty, konst_text, variable}
use Rattle.tptp_print.specs.Terms as printed
use Rattle.fo_terms.specs.declared.term.FoTerm.{FoTerm, Var, Fun}
use Rattle.tptp_syntax.specs.Tokens.{is_lower, is_word_byte}
use Rattle.tptp_syntax.specs.Grammar.{symbol_number}
use Rattle.problem_laws.specs.Names.{tag_name, konst_name}
use Rattle.problem_laws.specs.inner.Readable.{term_step, readable_term}
use Rattle.problem_laws.specs.Formulas.{Core, tagged, application, core_step, core_of}
use Rattle.problem_laws.proofs.Lexemes.{Open, Close, Comma, Lexeme, Name, Variable, Sign, is_lower_word, sign_first, cuttable}
use Rattle.problem_laws.proofs.Cutting.{decimal_word}
use Rattle.problem_laws.proofs.Words.{num}
use Rattle.problem_laws.proofs.Pages.{Front, Writes, nothing, also, said, said_both, typed, varied}
use Rattle.problem_laws.proofs.TermsRead.{TermReads, variable_reads, constant_reads, applied_reads, two_read}

abbrev pub Cuts : Front → Type 0
Cuts f = (ys : List Lexeme) → IsTrue (sign_first ys) → IsTrue (cuttable ys) → IsTrue (cuttable (f ys))

abbrev pub named_well : Decl → Bool
named_well d = list_all is_word_byte d.name

-- the numbers of names, where these symbols came
abbrev pub number : List (List ℕ) → List ℕ → List ℕ → ℕ
number W S w = symbol_number (num W w) S

-- a tag around what stands below it
abbrev pub tag_front : List Ty → Ty → Front → Front
tag_front T a f ys = Name (tag_name T a) ∷ Sign Open ∷ f (Sign Close ∷ ys)

-- `T`: the types that have numbers in the end; `W`: all the names of the text
module _ (T : List Ty) (consts : List Decl) (W : List (List ℕ)) (named : IsTrue (list_all named_well consts)) where
  pub record Ok (n : ℕ) (p : Part) (k : (List ℕ → ℕ) → Core) (readable : Bool) : Type 0 where
    pub front : Front
    pub ty : (m : List ℕ → ℕ) → (k m).ty ≡ p.ty
    pub writes : Writes T p.core front
    pub cuts : Cuts front
    pub reads : IsTrue readable → TermReads W n front (λ S. (k (number W S)).core)

  change : (n : ℕ) (p q : Part) (k j : (List ℕ → ℕ) → Core) (r s : Bool) → p ≡ q → k ≡ j → r ≡ s → Ok n p k r → Ok n q j s
  change n p q k j r s e f g h = subst (λ b. Ok n q j b) g (subst (λ z. Ok n q z r) f (subst (λ z. Ok n z k r) e h))

  -- ---- tags
  number_word : (w : List ℕ) (a : Ty) → IsTrue (is_lower_word w) → IsTrue (is_lower_word (w ++ decimal (number_in T a)))
  number_word [] a h = cc
  number_word (b ∷ bs) a h =
      let both = both_true (is_lower b) (list_all is_word_byte bs) h in
      and_true (is_lower b) (list_all is_word_byte (bs ++ decimal (number_in T a))) both.0
      (all_both bs (decimal (number_in T a)) both.1 (decimal_word (number_in T a)))
    where
      all_both : (xs ys : List ℕ) → IsTrue (list_all is_word_byte xs) → IsTrue (list_all is_word_byte ys) → IsTrue (list_all is_word_byte (xs ++ ys))
      all_both [] ys hx hy = hy
      all_both (x ∷ xs) ys hx hy = let two = both_true (is_word_byte x) (list_all is_word_byte xs) hx in and_true (is_word_byte x) (list_all is_word_byte (xs ++ ys)) two.0 (all_both xs ys two.1 hy)

  module _ (n : ℕ) (p : Part) (k : (List ℕ → ℕ) → Core) (r : Bool) (h : Ok n p k r) where
    pub tag_writes : Writes T (printed.tagged p) (tag_front T p.ty h.front)
    tag_writes =
        also T (pieces (word (codes "t") ∷ type_number p.ty ∷ [])) (pieces (word (codes "(") ∷ p.core ∷ word (codes ")") ∷ []))
        (λ ys. Name (tag_name T p.ty) ∷ ys) (λ ys. Sign Open ∷ h.front (Sign Close ∷ ys)) (typed T (codes "t") p.ty)
        (also T (word (codes "(")) (pieces (p.core ∷ word (codes ")") ∷ [])) (λ ys. Sign Open ∷ ys) (λ ys. h.front (Sign Close ∷ ys)) (said T (codes "(") (λ ys. Sign Open ∷ ys) (λ ys. refl))
        (also T p.core (word (codes ")")) h.front (λ ys. Sign Close ∷ ys) h.writes (said T (codes ")") (λ ys. Sign Close ∷ ys) (λ ys. refl))))

    pub tag_cuts : Cuts (tag_front T p.ty h.front)
    tag_cuts ys first cut = and_true (is_lower_word (tag_name T p.ty)) (cuttable (h.front (Sign Close ∷ ys))) (decimal_word (number_in T p.ty)) (h.cuts (Sign Close ∷ ys) refl cut)

    pub tag_reads : IsTrue r → TermReads W n (tag_front T p.ty h.front) (λ S. tagged (number W S) T (k (number W S)))
    tag_reads so =
        let u : List ℕ → FoTerm = λ S. Fun (number W S (tag_name T p.ty)) ((k (number W S)).core ∷ []) in
        let v : List ℕ → FoTerm = λ S. tagged (number W S) T (k (number W S)) in
        let same : u ≡ v = λ i S. Fun (number W S (tag_name T (sym (h.ty (number W S)) i))) ((k (number W S)).core ∷ []) in
        subst (λ w. TermReads W n (tag_front T p.ty h.front) w) same (applied_reads W n (tag_name T p.ty) h.front (λ S. (k (number W S)).core) (h.reads so))

  -- ---- the parts of terms
  module _ (table : List Aux) where
    abbrev core : Term → List Ty → (List ℕ → ℕ) → Core
    core t c m = core_of m T consts table t c

    app_ok : (n : ℕ) (p q : Part) (k j : (List ℕ → ℕ) → Core) (r s : Bool) → Ok n p k r → Ok n q j s → Ok n (printed.application p q) (λ m. application m T (k m) (j m)) (r && s)
    app_ok n p q k j r s hp hq =
        let f = tag_front T p.ty hp.front in
        let g = tag_front T q.ty hq.front in
        record {
          front = λ ys. Name (codes "app") ∷ Sign Open ∷ f (Sign Comma ∷ g (Sign Close ∷ ys));
          ty = λ m. ap (λ a. result_at a (out-Ty a)) (hp.ty m);
          writes =
              also T (word (codes "app(")) (pieces (printed.tagged p ∷ word (codes ",") ∷ printed.tagged q ∷ word (codes ")") ∷ [])) (λ ys. Name (codes "app") ∷ Sign Open ∷ ys) (λ ys. f (Sign Comma ∷ g (Sign Close ∷ ys)))
              (said T (codes "app(") (λ ys. Name (codes "app") ∷ Sign Open ∷ ys) (λ ys. refl))
              (also T (printed.tagged p) (pieces (word (codes ",") ∷ printed.tagged q ∷ word (codes ")") ∷ [])) f (λ ys. Sign Comma ∷ g (Sign Close ∷ ys)) (tag_writes n p k r hp)
              (also T (word (codes ",")) (pieces (printed.tagged q ∷ word (codes ")") ∷ [])) (λ ys. Sign Comma ∷ ys) (λ ys. g (Sign Close ∷ ys)) (said T (codes ",") (λ ys. Sign Comma ∷ ys) (λ ys. refl))
              (also T (printed.tagged q) (word (codes ")")) g (λ ys. Sign Close ∷ ys) (tag_writes n q j s hq) (said T (codes ")") (λ ys. Sign Close ∷ ys) (λ ys. refl)))));
          cuts = λ ys first cut. tag_cuts n p k r hp (Sign Comma ∷ g (Sign Close ∷ ys)) refl (tag_cuts n q j s hq (Sign Close ∷ ys) refl cut);
          reads = λ so.
              let both = both_true r s so in
              two_read W n (codes "app") f g (λ S. tagged (number W S) T (k (number W S))) (λ S. tagged (number W S) T (j (number W S))) (tag_reads n p k r hp both.0) (tag_reads n q j s hq both.1);
        }

    named_word : (ds : List Decl) (i : ℕ) → IsTrue (list_all named_well ds) → IsTrue (list_all is_word_byte (option_map_or (λ (d : Decl). d.name) (slice_get ds i) []))
    named_word [] i h = refl
    named_word (d ∷ ds) zero h = (both_true (named_well d) (list_all named_well ds) h).0
    named_word (d ∷ ds) (suc i) h = named_word ds i (both_true (named_well d) (list_all named_well ds) h).1

    name_word : (k : Konst) → IsTrue (is_lower_word (konst_name T consts k))
    name_word (konst.Named i) = named_word consts i named
    name_word (konst.Aux i) = decimal_word i
    name_word konst.True = refl
    name_word konst.False = refl
    name_word konst.Not = refl
    name_word konst.And = refl
    name_word konst.Or = refl
    name_word konst.Imp = refl
    name_word (konst.Eq a) = number_word (codes "k_eq_") a refl
    name_word (konst.All a) = number_word (codes "k_all_") a refl
    name_word (konst.Ex a) = number_word (codes "k_ex_") a refl
    name_word (konst.Eps a) = number_word (codes "k_eps_") a refl

    one_word : (w : List ℕ) → Writes T (word w) (λ ys. Name w ∷ ys)
    one_word w = said T w (λ ys. Name w ∷ ys) (λ ys. refl)

    konst_writes : (k : Konst) → Writes T (konst_text consts k) (λ ys. Name (konst_name T consts k) ∷ ys)
    konst_writes (konst.Named i) = said_both T (codes "c_") (option_map_or (λ (d : Decl). d.name) (slice_get consts i) [])
    konst_writes (konst.Aux i) = said_both T (codes "l_") (decimal i)
    konst_writes konst.True = one_word (codes "k_true")
    konst_writes konst.False = one_word (codes "k_false")
    konst_writes konst.Not = one_word (codes "k_not")
    konst_writes konst.And = one_word (codes "k_and")
    konst_writes konst.Or = one_word (codes "k_or")
    konst_writes konst.Imp = one_word (codes "k_imp")
    konst_writes (konst.Eq a) = typed T (codes "k_eq_") a
    konst_writes (konst.All a) = typed T (codes "k_all_") a
    konst_writes (konst.Ex a) = typed T (codes "k_ex_") a
    konst_writes (konst.Eps a) = typed T (codes "k_eps_") a

    konst_ok : (n : ℕ) (k : Konst) → Ok n (record { ty = konst_ty consts table k; core = konst_text consts k }) (λ m. record { ty = konst_ty consts table k; core = Fun (m (konst_name T consts k)) [] }) true
    konst_ok n k = record {
      front = λ ys. Name (konst_name T consts k) ∷ ys;
      ty = λ m. refl;
      writes = konst_writes k;
      cuts = λ ys first cut. and_true (is_lower_word (konst_name T consts k)) (sign_first ys && cuttable ys) (name_word k) (and_true (sign_first ys) (cuttable ys) first cut);
      reads = λ so. constant_reads W n (konst_name T consts k);
    }

    variable_ok : (n v : ℕ) (a : Ty) (r : Bool) → (IsTrue r → v < n) → Ok n (record { ty = a; core = variable v }) (λ m. record { ty = a; core = Var v }) r
    variable_ok n v a r h = record {
      front = λ ys. Variable v ∷ ys;
      ty = λ m. refl;
      writes = varied T v;
      cuts = λ ys first cut. and_true (sign_first ys) (cuttable ys) first cut;
      reads = λ so. variable_reads W n v (h so);
    }

    lam_ok : (n : ℕ) (a : Ty) (p : Part) (k : (List ℕ → ℕ) → Core) → ((m : List ℕ → ℕ) → (k m).ty ≡ p.ty) →
        Ok n (record { ty = function_ty a p.ty; core = λ page. page }) (λ m. record { ty = function_ty a (k m).ty; core = Var 0 }) false
    lam_ok n a p k same = record {
      front = λ ys. ys;
      ty = λ m. ap (function_ty a) (same m);
      writes = nothing T;
      cuts = λ ys first cut. cut;
      reads = λ so. let e : false ≡ true = so in cc;
    }

    abbrev TermOk : Term → Type 0
    TermOk t = (c : List Ty) → Ok (length c) (part consts table t c) (core t c) (readable_term t (length c))

    under : (i n : ℕ) → IsTrue (nat_lt i n) → n - 1 - i < n
    under i n h = let less : i < n = ltb-true i n h in omega arith

    made : (x : Term-F Term) (c : List Ty) (p : Part) (k : (List ℕ → ℕ) → Core) (r : Bool) → part consts table (roll-Term x) c ≡ p → ((m : List ℕ → ℕ) → core (roll-Term x) c m ≡ k m) →
        readable_term (roll-Term x) (length c) ≡ r → Ok (length c) p k r → Ok (length c) (part consts table (roll-Term x) c) (core (roll-Term x) c) (readable_term (roll-Term x) (length c))
    made x c p k r e f g h = change (length c) p (part consts table (roll-Term x) c) k (core (roll-Term x) c) r (readable_term (roll-Term x) (length c)) (sym e) (λ i m. sym (f m) i) (sym g) h

    bound_ok : (i : ℕ) → TermOk (roll-Term (Term-F.Bound i))
    bound_ok i c =
        made (Term-F.Bound i) c (record { ty = ty_at c i; core = variable (length c - 1 - i) }) (λ m. record { ty = ty_at c i; core = Var (length c - 1 - i) }) (nat_lt i (length c))
        (ap (λ g. g c) (fold-roll-Term (List Ty → Part) (part_step consts table) (Term-F.Bound i)))
        (λ m. ap (λ g. g c) (fold-roll-Term (List Ty → Core) (core_step m T consts table) (Term-F.Bound i)))
        (ap (λ g. g (length c)) (fold-roll-Term (ℕ → Bool) term_step (Term-F.Bound i))) (variable_ok (length c) (length c - 1 - i) (ty_at c i) (nat_lt i (length c)) (under i (length c)))

    free_ok : (v : ℕ) (a : Ty) → TermOk (roll-Term (Term-F.Free v a))
    free_ok v a c =
        made (Term-F.Free v a) c (record { ty = a; core = variable v }) (λ m. record { ty = a; core = Var v }) false
        (ap (λ g. g c) (fold-roll-Term (List Ty → Part) (part_step consts table) (Term-F.Free v a)))
        (λ m. ap (λ g. g c) (fold-roll-Term (List Ty → Core) (core_step m T consts table) (Term-F.Free v a)))
        (ap (λ g. g (length c)) (fold-roll-Term (ℕ → Bool) term_step (Term-F.Free v a))) (variable_ok (length c) v a false (λ so. let e : false ≡ true = so in cc))

    con_ok : (k : Konst) → TermOk (roll-Term (Term-F.Con k))
    con_ok k c =
        made (Term-F.Con k) c (record { ty = konst_ty consts table k; core = konst_text consts k }) (λ m. record { ty = konst_ty consts table k; core = Fun (m (konst_name T consts k)) [] }) true
        (ap (λ g. g c) (fold-roll-Term (List Ty → Part) (part_step consts table) (Term-F.Con k)))
        (λ m. ap (λ g. g c) (fold-roll-Term (List Ty → Core) (core_step m T consts table) (Term-F.Con k)))
        (ap (λ g. g (length c)) (fold-roll-Term (ℕ → Bool) term_step (Term-F.Con k))) (konst_ok (length c) k)

    apply_ok : (f x : Term) → TermOk f → TermOk x → TermOk (roll-Term (Term-F.App f x))
    apply_ok f x hf hx c =
        let r = readable_term f (length c) in
        let s = readable_term x (length c) in
        made (Term-F.App f x) c (printed.application (part consts table f c) (part consts table x c)) (λ m. application m T (core f c m) (core x c m)) (r && s)
        (ap (λ g. g c) (fold-roll-Term (List Ty → Part) (part_step consts table) (Term-F.App f x)))
        (λ m. ap (λ g. g c) (fold-roll-Term (List Ty → Core) (core_step m T consts table) (Term-F.App f x)))
        (ap (λ g. g (length c)) (fold-roll-Term (ℕ → Bool) term_step (Term-F.App f x)))
        (app_ok (length c) (part consts table f c) (part consts table x c) (core f c) (core x c) r s (hf c) (hx c))

    lambda_ok : (a : Ty) (b : Term) → TermOk b → TermOk (roll-Term (Term-F.Lam a b))
    lambda_ok a b hb c =
        let p = part consts table b (a ∷ c) in
        made (Term-F.Lam a b) c (record { ty = function_ty a p.ty; core = λ page. page }) (λ m. record { ty = function_ty a (core b (a ∷ c) m).ty; core = Var 0 }) false
        (ap (λ g. g c) (fold-roll-Term (List Ty → Part) (part_step consts table) (Term-F.Lam a b)))
        (λ m. ap (λ g. g c) (fold-roll-Term (List Ty → Core) (core_step m T consts table) (Term-F.Lam a b)))
        (ap (λ g. g (length c)) (fold-roll-Term (ℕ → Bool) term_step (Term-F.Lam a b))) (lam_ok (length c) a p (core b (a ∷ c)) (hb (a ∷ c)).ty)

    pub term_ok : (t : Term) → TermOk t
    term_ok = by_cases TermOk bound_ok free_ok con_ok apply_ok lambda_ok
