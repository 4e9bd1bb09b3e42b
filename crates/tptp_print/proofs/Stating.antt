-- Statements as they are written.
use Rattle.std.proofs.Common.{◌≡◌, ◌<◌, ◌+◌, ℕ, zero, suc, Bool, false, IsTrue, List, [], ◌∷◌, ◌++◌, map, drop, get_or, length, slice_get, codes, sym, ap, ◌∙◌, arith}
use Rattle.std.specs.Prelude.{unwrap_or}
use Rattle.std.proofs.Math.Seq.{drop-cons}
use Rattle.hol_terms.proofs.Both.{both_true}
use Rattle.std.specs.List.{list_all}
use Rattle.std.proofs.lemmas.List.Folds.{list_all-map}
use Rattle.hol_terms.specs.declared.sig.Sig.{Sig}
use Rattle.hol_terms.specs.declared.term.Term.{Term}
use Rattle.hol_terms.specs.Formulas.{is_sentence}
use Rattle.hol_formulas.specs.declared.formula.Formula.{Formula}
use Rattle.hol_formulas.specs.Formulas.{formula_of}
use Rattle.lambda_lift.specs.declared.table.Aux.{Aux}
use Rattle.lambda_lift.specs.Lifting.{lifted}
use Rattle.lambda_lift.specs.Wholes.{whole}
use Rattle.theory_terms.specs.declared.decl.Decl.{Decl}
use Rattle.theory_reader.specs.declared.statement.Fact.{Fact}
use Rattle.theory_reader.specs.Sound.{facts_hold_sentences}
use Rattle.tptp_print.specs.declared.page.Page.{Page}
use Rattle.tptp_print.specs.declared.problem.Draft.{Draft}
use Rattle.tptp_print.specs.Pages.{word}
use Rattle.tptp_print.specs.Formulas.{formula_text}
use Rattle.tptp_print.specs.Problems.{role, statement, fact_statement, fact_statements, fact_at, chosen}

module _ (sig : Sig) (consts : List Decl) (goal : Bool) (name : List ℕ) (t : Term) (d : Draft) where
  pub stated : (table : List Aux) (f : Formula) (p q r s e : Page) → f ≡ formula_of (whole goal (lifted sig d.table t)) → table ≡ (lifted sig d.table t).table → p ≡ word (codes "fof(") d.page → q ≡ word name p →
      r ≡ word (role goal) q → s ≡ formula_text consts table f [] r → e ≡ word (codes ").\n") s → (let made : Draft = record { table = table; page = e } in made) ≡ statement sig consts goal name t d
  stated table f p q r s e hf ht hp hq hr hs he =
      let before : r ≡ word (role goal) (word name (word (codes "fof(") d.page)) = hr ∙ ap (word (role goal)) (hq ∙ ap (word name) hp) in
      let all : e ≡ word (codes ").\n") (formula_text consts table f [] (word (role goal) (word name (word (codes "fof(") d.page)))) = he ∙ ap (word (codes ").\n")) (hs ∙ ap (formula_text consts table f []) before) in
      (λ i. record { table = table; page = all i })
      ∙ (λ i. record { table = ht i; page = word (codes ").\n") (formula_text consts (ht i) (hf i) [] (word (role goal) (word name (word (codes "fof(") d.page)))) })

-- each fact is a sentence where each formula is
pub facts_are : (sig : Sig) (facts : List Fact) (formulas : List Term) → formulas ≡ map (λ f. f.formula) facts → IsTrue (list_all (is_sentence sig) formulas) → IsTrue (facts_hold_sentences sig facts)
facts_are sig facts formulas is h = sym (list_all-map (is_sentence sig) (λ (f : Fact). f.formula) facts) ∙ ap (list_all (is_sentence sig)) (sym is) ∙ h

-- one fact more is written
module _ (sig : Sig) (consts : List Decl) (seen : List Fact) (numbers : List ℕ) where
  pub one_more : (i : ℕ) (f : Fact) (name : List ℕ) (old new all : Draft) → i < length numbers → f ≡ fact_at seen (get_or numbers i 0) → name ≡ f.name → new ≡ statement sig consts false (codes "f_" ++ name) f.formula old →
      fact_statements sig consts (chosen seen (drop i numbers)) old ≡ all → fact_statements sig consts (chosen seen (drop (i + 1) numbers)) new ≡ all
  one_more i f name old new all within is named made so =
      let next : suc i ≡ i + 1 = omega arith in
      let first : drop i numbers ≡ get_or numbers i 0 ∷ drop (i + 1) numbers = drop-cons numbers i 0 within ∙ ap (λ k. get_or numbers i 0 ∷ drop k numbers) next in
      let here : new ≡ fact_statement sig consts (fact_at seen (get_or numbers i 0)) old = made ∙ ap (λ w. statement sig consts false (codes "f_" ++ w) f.formula old) named ∙ ap (λ g. fact_statement sig consts g old) is in
      ap (fact_statements sig consts (chosen seen (drop (i + 1) numbers))) here ∙ sym (ap (λ l. fact_statements sig consts (chosen seen l) old) first) ∙ so

pub passes_at : {X : Type 0} (p : X → Bool) (xs : List X) (n : ℕ) (d : X) → IsTrue (list_all p xs) → n < length xs → IsTrue (p (unwrap_or (slice_get xs n) d))
passes_at p [] n d h l = absurd (omega arith)
passes_at p (x ∷ xs) zero d h l = (both_true (p x) (list_all p xs) h).0
passes_at p (x ∷ xs) (suc n) d h l = passes_at p xs n d (both_true (p x) (list_all p xs) h).1 (omega arith)
