-- The kills of the slots that run, one after another.
use Rattle.std.proofs.Common.{◌≡◌, ◌≢◌, ℕ, ◌+◌, ◌≤◌, false, List, [], ◌∷◌, ◌++◌, length, refl, sym, ap, ◌∙◌, arith, Option, Some, None, zero, suc, drop, append_assoc}
use Rattle.std.specs.Prelude.{slice_get, option_and_then}
use Rattle.std.specs.List.{filter_map, cons_option}
use Rattle.race_core.specs.declared.slot.SlotState.{SlotState}
use Rattle.race_core.specs.declared.slot.SlotState.TheVariants.{Waiting, Running, Overdue, Reaped, ReapedLate, Settled}
use Rattle.race_core.specs.Standings.{Standing, is_listed}
use Rattle.race_core.specs.Ran.{running_from}
use Rattle.race_board.specs.Calls.{KillsAll}
use Rattle.race_board.specs.inner.Kept.{id_in, AreKillable, killed_one}
use Rattle.race_board.proofs.Lists.{unlisted-append, unlisted-push}

one-run : (id : Option ℕ) (l : List ℕ) → cons_option id l ≡ killed_one Running id ++ l
one-run None l = refl
one-run (Some i) l = refl

here : (f : ℕ → Option ℕ) (n : ℕ) (s : SlotState) (ss : List SlotState) → filter_map f (running_from n (s ∷ ss)) ≡ killed_one s (f n) ++ filter_map f (running_from (n + 1) ss)
here f n Waiting ss = refl
here f n Running ss = one-run (f n) (filter_map f (running_from (n + 1) ss))
here f n Overdue ss = refl
here f n Reaped ss = refl
here f n ReapedLate ss = refl
here f n (Settled v) ss = refl

running-next : (f : ℕ → Option ℕ) (ss : List SlotState) (k n : ℕ) (s : SlotState) → slice_get ss k ≡ Some s → filter_map f (running_from n (drop k ss)) ≡ killed_one s (f n) ++ filter_map f (running_from (n + 1) (drop (suc k) ss))
running-next f [] zero n s e = cc
running-next f [] (suc k) n s e = cc
running-next f (t ∷ ss) zero n s e =
    let same : t ≡ s = cc in
    ap (λ q. filter_map f (running_from n (q ∷ ss))) same ∙ here f n s ss
running-next f (t ∷ ss) (suc k) n s e = running-next f ss k n s e

past : (f : ℕ → Option ℕ) (n k : ℕ) (ss : List SlotState) → length ss ≤ k → filter_map f (running_from n (drop k ss)) ≡ []
past f n zero [] l = refl
past f n (suc k) [] l = refl
past f n zero (s ∷ ss) l = absurd (omega arith)
past f n (suc k) (s ∷ ss) l = past f n k ss (omega arith)

-- the slots below this one were killed where they ran, and the others that run can be
pub record IsKilling (slots : List SlotState) (ids : List (Option ℕ)) (k : ℕ) (first now : Standing) : Type 0 where
  pub starts : now.starts ≡ first.starts
  pub orders : now.orders ≡ first.orders
  pub kills : now.kills ++ filter_map (id_in ids) (running_from k (drop k slots)) ≡ first.kills ++ filter_map (id_in ids) (running_from 0 slots)
  pub waits : now.waits ≡ first.waits
  pub faults : first.faults ≤ now.faults
  pub last : now.last ≡ first.last
  pub unkilled : (j i : ℕ) → k ≤ j → slice_get slots j ≡ Some Running → id_in ids j ≡ Some i → is_listed i now.kills ≡ false

one-unlisted : (i : ℕ) (s : SlotState) (id : Option ℕ) → ((d : ℕ) → s ≡ Running → id ≡ Some d → d ≢ i) → is_listed i (killed_one s id) ≡ false
one-unlisted i Running (Some d) apart = unlisted-push i d [] (apart d refl refl) refl
one-unlisted i Running None apart = refl
one-unlisted i Waiting id apart = refl
one-unlisted i Overdue id apart = refl
one-unlisted i Reaped id apart = refl
one-unlisted i ReapedLate id apart = refl
one-unlisted i (Settled v) id apart = refl

pub killing-goes : (slots : List SlotState) (ids : List (Option ℕ)) (k : ℕ) (first now next : Standing) (s : SlotState) (id : Option ℕ)
    → AreKillable slots ids first → IsKilling slots ids k first now → slice_get slots k ≡ Some s → slice_get ids k ≡ Some id → KillsAll (killed_one s id) now next → IsKilling slots ids (k + 1) first next
killing-goes slots ids k first now next s id can is at known kill =
    let mine : id_in ids k ≡ id = ap (λ o. option_and_then (λ x. x) o) known in
    let more : k + 1 ≡ suc k = omega arith in
    record {
      starts = kill.starts ∙ is.starts;
      orders = kill.orders ∙ is.orders;
      kills =
          ap (λ l. l ++ filter_map (id_in ids) (running_from (k + 1) (drop (k + 1) slots))) kill.kills
          ∙ append_assoc now.kills (killed_one s id) _
          ∙ ap (λ q. now.kills ++ (killed_one s id ++ filter_map (id_in ids) (running_from (k + 1) (drop q slots)))) more
          ∙ ap (λ q. now.kills ++ (killed_one s q ++ filter_map (id_in ids) (running_from (k + 1) (drop (suc k) slots)))) (sym mine)
          ∙ ap (λ l. now.kills ++ l) (sym (running-next (id_in ids) slots k k s at))
          ∙ is.kills;
      waits = kill.waits ∙ is.waits;
      faults = omega (arith, kill.faults, is.faults);
      last = kill.last ∙ is.last;
      unkilled = λ j i l run own.
          ap (is_listed i) kill.kills
          ∙ unlisted-append i now.kills (killed_one s id) (is.unkilled j i (omega arith) run own) (one-unlisted i s id (λ d runs is_id same. (let one : j ≡ k = can.distinct j k i own (mine ∙ is_id ∙ ap Some same) in absurd (omega (arith, one)))));
    }
