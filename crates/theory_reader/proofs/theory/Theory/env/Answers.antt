use Rattle.std.proofs.Common.{◌≡◌, ◌≤◌, sym, subst, IsTrue, length, ◌<◌, arith}
use Rattle.std.specs.List.{list_all}
use Rattle.hol_terms.specs.Formulas.{is_sentence}
use Rattle.theory_terms.specs.Signature.{sig_of}
use Rattle.theory_reader.specs.Sound.{facts_hold_sentences}
use Rattle.theory_reader.proofs.Envs.{seen_sentences, goal_sentences, stands_behind}
use Rattle.theory_reader.proofs.theory.Theory.env.Goals as goal

pub formulas-requires : goal.formulas-requires
formulas-requires c =
    let behind = stands_behind c.args.self.now.facts c.args.self.now.goals c.args.goal c.at-stated.result.now c.args.self.now.places_exist c.at-stated.ensures in
    subst (λ fs. c.at-stated.result.now.before ≤ length fs) (sym c.as_slice.ensures) behind

pub invariant_of-result : goal.invariant_of-result
invariant_of-result c =
    let g = c.at-stated.result.now in
    let sig = sig_of (record { types = c.args.self.now.types; consts = c.args.self.now.consts }) in
    let goal_holds = goal_sentences sig c.args.self.now.goals c.args.goal g c.args.self.now.goals_are_sentences c.at-stated.ensures in
    let seen = seen_sentences sig c.as_slice.result.now g (subst (λ fs. IsTrue (facts_hold_sentences sig fs)) (sym c.as_slice.ensures) c.args.self.now.facts_are_sentences) goal_holds.1 in
    let same : c.in_ok-sig.sig ≡ sig = c.in_ok-sig.ensures in
    record {
      has_bool = subst (λ s. 0 < s.types) (sym same) (omega arith);
      facts_are_sentences = subst (λ s. IsTrue (list_all (is_sentence s) c.in_ok-facts.facts)) (sym same)
          (subst (λ fs. IsTrue (list_all (is_sentence sig) fs)) (sym c.in_ok-facts.ensures) seen);
      goal_is_sentence = subst (λ s. IsTrue (is_sentence s c.in_ok-formula.formula)) (sym same)
          (subst (λ t. IsTrue (is_sentence sig t)) (sym c.in_ok-formula.ensures) goal_holds.0);
    }
