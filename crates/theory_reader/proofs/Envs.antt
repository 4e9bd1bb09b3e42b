-- What a goal is proved from are sentences.
use Rattle.std.proofs.Common.{◌≡◌, ℕ, ◌≤◌, ◌∙◌, ◌&&◌, nat_le, IsTrue, List, map, take, length, slice_get, Some}
use Rattle.std.specs.List.{list_all}
use Rattle.std.proofs.lemmas.Bool.{leb-true}
use Rattle.std.proofs.lemmas.List.Folds.{list_all-map}
use Rattle.hol_terms.specs.declared.sig.Sig.{Sig}
use Rattle.hol_terms.specs.Formulas.{is_sentence}
use Rattle.hol_terms.proofs.Both.{both_true}
use Rattle.theory_reader.specs.declared.statement.Fact.{Fact}
use Rattle.theory_reader.specs.declared.statement.Goal.{Goal}
use Rattle.theory_reader.specs.Sound.{seen_from, facts_hold_sentences, goals_hold_sentences, are_behind, are_few}
use Rattle.theory_reader.proofs.Passes.{passes_at, take_passes, both_pass}

pub seen_sentences : (sig : Sig) (facts : List Fact) (g : Goal) → IsTrue (facts_hold_sentences sig facts) → IsTrue (facts_hold_sentences sig g.assumes) →
    IsTrue (list_all (is_sentence sig) (map (λ f. f.formula) (seen_from facts g)))
seen_sentences sig facts g h k =
    list_all-map (is_sentence sig) (λ f. f.formula) (seen_from facts g) ∙
    both_pass (λ f. is_sentence sig f.formula) (take g.before facts) g.assumes (take_passes (λ f. is_sentence sig f.formula) g.before facts h) k

pub goal_sentences : (sig : Sig) (goals : List Goal) (n : ℕ) (g : Goal) → IsTrue (goals_hold_sentences sig goals) → slice_get goals n ≡ Some g →
    IsTrue (is_sentence sig g.formula) × IsTrue (facts_hold_sentences sig g.assumes)
goal_sentences sig goals n g h e =
    both_true (is_sentence sig g.formula) (facts_hold_sentences sig g.assumes)
    (passes_at (λ g. is_sentence sig g.formula && facts_hold_sentences sig g.assumes) goals n g h e)

pub stands_behind : (facts : List Fact) (goals : List Goal) (n : ℕ) (g : Goal) → IsTrue (are_behind facts goals) → slice_get goals n ≡ Some g →
    g.before ≤ length facts
stands_behind facts goals n g h e = leb-true g.before (length facts) (passes_at (λ g. nat_le g.before (length facts)) goals n g h e)

pub few_assumes : (facts : List Fact) (goals : List Goal) (n : ℕ) (g : Goal) → IsTrue (are_few facts goals) → slice_get goals n ≡ Some g →
    length g.assumes ≤ 64
few_assumes facts goals n g h e =
    let each = both_true (nat_le (length facts) 20000) (list_all (λ g. nat_le (length g.assumes) 64) goals) h in
    leb-true (length g.assumes) 64 (passes_at (λ g. nat_le (length g.assumes) 64) goals n g each.1 e)
