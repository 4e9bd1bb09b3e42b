use Rattle.std.proofs.Common.{◌≡◌, ◌+◌, ◌++◌, ◌∷◌, [], None, List, arith, refl, sym, ap, ◌∙◌, subst}
use Rattle.std.specs.Prelude.{option_map}
use Rattle.race_core.specs.Standings.{Standing}
use Rattle.race_core.specs.declared.slot.Order.{Order}
use Rattle.race_outside.specs.Launchers.{Starts}
use Rattle.child_launcher.proofs.child_launcher.ChildLauncherLauncher.start.Goals as goal

starts_untold : (order : Order) (before now : Standing) → before.orders ≡ None → now ≡ record before { starts = before.starts + 1 } → Starts order before now
starts_untold order before now none is =
    let P : Standing → Type 0 = λ s. Starts order before s in
    subst P (sym is) (record {
      starts = refl;
      orders = none ∙ sym (ap (option_map (λ (earlier : List Order). earlier ++ order ∷ [])) none);
      kills = refl;
      waits = refl;
      faults = omega arith;
      last = refl;
    })

pub returns-in-Ok-start-clause-started : goal.returns-in-Ok-start-clause-started
returns-in-Ok-start-clause-started g c =
    let P : Standing → Type 0 = λ s. Starts (record { args = c.args.args.now; problem = c.args.text.now }) s c.start.new.self in
    subst P c.self.view_is (starts_untold _ _ _ c.next-id.ensures.untold c.in-Ok-start.ensures.ok)
