use Rattle.std.proofs.Common.{ℕ, ◌≡◌, List, [], sym, subst, ◌∙◌, arith}
use Rattle.std.specs.Prelude.{Contains}
use Rattle.hyp_sets.proofs.Answered.{if_ok_map}
use Rattle.fact_minimise.specs.Sublists.{IsSublist}
use Rattle.fact_minimise.proofs.Shorter.{sublist-self, sublist-sublist}
use Rattle.fact_minimise.proofs.Turns.{sound-alike}
use Rattle.slot_work.proofs.searches.minimised.Goals as goal

none_in : (x : ℕ) → Contains [] x → ⊥
none_in x (k, within, same) = omega arith

pub loop-minimise-init : goal.loop-minimise-init
loop-minimise-init g c = record {
  sound = record {
    found = subst (g.R.Replay.finds c.args.replay.now) (sym c.begin-minimise.ensures.kept) c.requires;
    needed = λ f h. absurd (none_in f (subst (λ l. Contains l f) c.begin-minimise.ensures.needed h));
  };
  same = λ facts. (λ h. h, λ h. h);
  sublist = sublist-self c.begin-minimise.result.kept;
}

pub loop-minimise-preserved : goal.loop-minimise-preserved
loop-minimise-preserved g c =
    let same = c.loop-minimise.invariant.same in
    record {
      sound = sound-alike (g.R.Replay.finds c.args.replay.now) (g.R.Replay.finds c.loop-minimise.replay) c.turn.new.self (λ f. ((same f).1, (same f).0)) c.turn.ensures.sound;
      same = λ f. (λ h. (same f).0 ((c.turn.ensures.relation f).0 h), λ h. (c.turn.ensures.relation f).1 ((same f).1 h));
      sublist = sublist-sublist c.turn.ensures.sublist c.loop-minimise.invariant.sublist;
    }

pub returns-in-Done-clause-sublist : goal.returns-in-Done-clause-sublist
returns-in-Done-clause-sublist g c =
    let all = sublist-sublist c.turn.ensures.sublist c.loop-minimise.invariant.sublist in
    if_ok_map c.copy.result _ _
    (λ k e. subst (λ l. IsSublist l c.args.facts) (sym (e ∙ c.kept.ensures)) (subst (IsSublist c.turn.new.self.kept) c.begin-minimise.ensures.kept all)) c.copy.ensures
