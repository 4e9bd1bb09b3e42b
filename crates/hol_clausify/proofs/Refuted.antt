-- Lists of theorems that refute clauses.
use Rattle.std.proofs.Common.{◌≡◌, ℕ, zero, suc, ◌+◌, ◌<◌, ◌≤◌, Bool, List, take, [], ◌∷◌, ◌++◌, map, length, get_or, ap, subst, refl, sym, ◌∙◌, append_assoc, arith}
use Rattle.std.proofs.lemmas.List.{append-nil, map-append, take_more, take_all}
use Rattle.std.specs.FinSet as set
use Rattle.hol_terms.specs.declared.term.Term.{Term}
use Rattle.hol_terms.specs.declared.literal.TypedLiteral.{TypedLiteral}
use Rattle.hyp_sets.specs.Sets.{TermSet, only, set_of, Among, Holds}
use Rattle.hyp_sets.proofs.Members.{among_trans, among_union, in_left, in_right, holds_union}
use Rattle.hyp_sets.proofs.Joined.{among_front, among_back}
use Rattle.kernel_rules.specs.declared.step.ThmId.{ThmId}
use Rattle.kernel_rules.specs.declared.sequent.Sequent.{Sequent}
use Rattle.kernel_rules.specs.Connectives.{falsum, neg}
use Rattle.kernel_rules.specs.Rules.{seq}
use Rattle.hol_kernel.specs.Logs.{Logged, IsThm, thm}
use Rattle.hol_kernel.specs.Growth.{Extends, Gives, SameFacts}
use Rattle.hol_kernel.proofs.Growing.{extends_refl, extends_trans, thm_stays}
use Rattle.hol_clauses.specs.Literals.{denied}
use Rattle.hol_refutations.specs.Laws.{beside}
use Rattle.formula_clauses.specs.Walks.{Clauses, joined}
use Rattle.hol_clausify.specs.inner.Refuting.{denials, IsFalse, IsRefuted, AllFalse, AllRefuted, Lands, BothLand, Appended, EachLands, WithEach, EachWithEach}

-- ---- a log that grows
pub false_stays : (old new : Logged) (r : ℕ) → Extends old new → IsFalse old r → IsFalse new r
false_stays old new r kept f = record { is_thm = thm_stays old new r kept f.is_thm; concl = ap (λ q. q.concl) (kept.earlier r f.is_thm) ∙ f.concl }

pub refuted_stays : (old new : Logged) (from : TermSet) (c : List TypedLiteral) (r : ℕ) → Extends old new → IsRefuted old from c r → IsRefuted new from c r
refuted_stays old new from c r kept h = record {
  refutes = false_stays old new r kept h.refutes;
  hyps = subst (λ q. Among q.hyps (set.union from (denials c))) (sym (kept.earlier r h.refutes.is_thm)) h.hyps;
}

pub all_false_stay : (old new : Logged) (rs : List ThmId) → Extends old new → AllFalse old rs → AllFalse new rs
all_false_stay old new [] kept h = h
all_false_stay old new (r ∷ rs) kept h = (false_stays old new r.0 kept h.0, all_false_stay old new rs kept h.1)

pub all_stay : (old new : Logged) (from : TermSet) (cs : Clauses) (rs : List ThmId) → Extends old new → AllRefuted old from cs rs → AllRefuted new from cs rs
all_stay old new from [] [] kept h = h
all_stay old new from [] (r ∷ rs) kept h = h
all_stay old new from (c ∷ cs) [] kept h = h
all_stay old new from (c ∷ cs) (r ∷ rs) kept h = (refuted_stays old new from c r.0 kept h.0, all_stay old new from cs rs kept h.1)

pub all_false : (log : Logged) (from : TermSet) (cs : Clauses) (rs : List ThmId) → AllRefuted log from cs rs → AllFalse log rs
all_false log from [] [] h = tt
all_false log from [] (r ∷ rs) h = absurd h
all_false log from (c ∷ cs) [] h = absurd h
all_false log from (c ∷ cs) (r ∷ rs) h = (h.0.refutes, all_false log from cs rs h.1)

-- ---- two lists
pub all_append : (log : Logged) (from : TermSet) (cs ds : Clauses) (rs ss : List ThmId) → AllRefuted log from cs rs → AllRefuted log from ds ss → AllRefuted log from (cs ++ ds) (rs ++ ss)
all_append log from [] ds [] ss h g = g
all_append log from [] ds (r ∷ rs) ss h g = absurd h
all_append log from (c ∷ cs) ds [] ss h g = absurd h
all_append log from (c ∷ cs) ds (r ∷ rs) ss h g = (h.0, all_append log from cs ds rs ss h.1 g)

-- ---- what lands
pub landed : (old new : Logged) (part : Term) (th : ℕ) (whole : TermSet) (r : ℕ) (c : List TypedLiteral) → Lands old new part th whole r → IsRefuted old (only part) c th → IsRefuted new whole c r
landed old new part th whole r c l h = record { refutes = l.refutes; hyps = l.lifts (denials c) h.hyps }

denials_front : (c d : List TypedLiteral) → Among (denials c) (denials (c ++ d))
denials_front c d = subst (λ (xs : List Term). Among (denials c) (set_of xs)) (sym (map-append denied c d)) (among_front (map denied c) (map denied d))

denials_back : (c d : List TypedLiteral) → Among (denials d) (denials (c ++ d))
denials_back c d = subst (λ (xs : List Term). Among (denials d) (set_of xs)) (sym (map-append denied c d)) (among_back (map denied c) (map denied d))

more : (g s b t : TermSet) → Among g (set.union s b) → Among b t → Among g (set.union s t)
more g s b t h k = among_trans g (set.union s b) (set.union s t) h (among_union s b (set.union s t) (in_left s t) (among_trans b t (set.union s t) k (in_right s t)))

pub both_landed : (old new : Logged) (p : Term) (left : ℕ) (q : Term) (right : ℕ) (whole : TermSet) (r : ℕ) (c d : List TypedLiteral) → BothLand old new p left q right whole r →
    IsRefuted old (only p) c left → IsRefuted old (only q) d right → IsRefuted new whole (c ++ d) r
both_landed old new p left q right whole r c d l h g = record {
  refutes = l.refutes;
  hyps = l.lifts (denials (c ++ d)) (more (thm old left).hyps (only p) (denials c) (denials (c ++ d)) h.hyps (denials_front c d)) (more (thm old right).hyps (only q) (denials d) (denials (c ++ d)) g.hyps (denials_back c d));
}

-- ---- one theorem more
record Split (log : Logged) (from : TermSet) (xs ys : List ThmId) (cs : Clauses) : Type 0 where
  front : Clauses
  back : Clauses
  is : cs ≡ front ++ back
  first : AllRefuted log from front xs
  second : AllRefuted log from back ys

split : (log : Logged) (from : TermSet) (xs ys : List ThmId) (cs : Clauses) → AllRefuted log from cs (xs ++ ys) → Split log from xs ys cs
split log from [] ys cs h = record { front = []; back = cs; is = refl; first = tt; second = h }
split log from (x ∷ xs) ys [] h = absurd h
split log from (x ∷ xs) ys (c ∷ cs) h =
    let inner = split log from xs ys cs h.1 in
    record { front = c ∷ inner.front; back = inner.back; is = ap (λ z. c ∷ z) inner.is; first = (h.0, inner.first); second = inner.second }

joined_more : (cs : Clauses) (c : List TypedLiteral) (ds : Clauses) → joined (cs ++ c ∷ []) ds ≡ joined cs ds ++ map (λ d. c ++ d) ds
joined_more [] c ds = append-nil (map (λ d. c ++ d) ds)
joined_more (b ∷ cs) c ds =
    let own = map (λ d. b ++ d) ds in ap (λ z. own ++ z) (joined_more cs c ds) ∙ sym (append_assoc own (joined cs ds) (map (λ d. c ++ d) ds))

pub none_landed : (log : Logged) (part : Term) (whole : TermSet) (out : List ThmId) → EachLands log log part [] whole out out
none_landed log part whole out [] h = record { news = []; is = sym (append-nil out); refuted = tt }
none_landed log part whole out (c ∷ cs) h = absurd h

pub landed_more : (old mid new : Logged) (part : Term) (whole : TermSet) (xs : List ThmId) (th r : ThmId) (before between after : List ThmId) → after ≡ between ++ r ∷ [] → Extends old mid → Extends mid new →
    Lands mid new part th.0 whole r.0 → EachLands old mid part xs whole before between → EachLands old new part (xs ++ th ∷ []) whole before after
landed_more old mid new part whole xs th r before between after pushed kept later l lands cs h =
    let s = split old (only part) xs (th ∷ []) cs h in subst (λ z. Appended new whole z before after) (sym s.is) (at s.front s.first s.back s.second)
  where
    at : (front : Clauses) → AllRefuted old (only part) front xs → (b : Clauses) → AllRefuted old (only part) b (th ∷ []) → Appended new whole (front ++ b) before after
    at front f [] g = absurd g
    at front f (c ∷ (d ∷ ds)) g = absurd g.1
    at front f (c ∷ []) g =
        let e = lands front f in
        record {
          news = e.news ++ r ∷ [];
          is = pushed ∙ ap (λ z. z ++ r ∷ []) e.is ∙ append_assoc before e.news (r ∷ []);
          refuted = all_append new whole front (c ∷ []) e.news (r ∷ []) (all_stay mid new whole front e.news later e.refuted) (landed mid new part th.0 whole r.0 c l (refuted_stays old mid (only part) c th.0 kept g.0), tt);
        }

pub none_with : (log : Logged) (p : Term) (left : ℕ) (q : Term) (whole : TermSet) (out : List ThmId) → WithEach log log p left q [] whole out out
none_with log p left q whole out c [] h g = record { news = []; is = sym (append-nil out); refuted = tt }
none_with log p left q whole out c (d ∷ ds) h g = absurd g

pub with_more : (old mid new : Logged) (p : Term) (left : ℕ) (q : Term) (whole : TermSet) (xs : List ThmId) (th r : ThmId) (before between after : List ThmId) → after ≡ between ++ r ∷ [] → Extends old mid → Extends mid new →
    BothLand mid new p left q th.0 whole r.0 → WithEach old mid p left q xs whole before between → WithEach old new p left q (xs ++ th ∷ []) whole before after
with_more old mid new p left q whole xs th r before between after pushed kept later l lands c ds h g =
    let s = split old (only q) xs (th ∷ []) ds g in subst (λ z. Appended new whole (map (λ d. c ++ d) z) before after) (sym s.is) (at s.front s.first s.back s.second)
  where
    at : (front : Clauses) → AllRefuted old (only q) front xs → (b : Clauses) → AllRefuted old (only q) b (th ∷ []) → Appended new whole (map (λ d. c ++ d) (front ++ b)) before after
    at front f [] k = absurd k
    at front f (d ∷ (x ∷ ys)) k = absurd k.1
    at front f (d ∷ []) k =
        let e = lands c front h f in
        let own = map (λ x. c ++ x) front in
        record {
          news = e.news ++ r ∷ [];
          is = pushed ∙ ap (λ z. z ++ r ∷ []) e.is ∙ append_assoc before e.news (r ∷ []);
          refuted =
              subst (λ z. AllRefuted new whole z (e.news ++ r ∷ [])) (sym (map-append (λ x. c ++ x) front (d ∷ [])))
              (all_append new whole own ((c ++ d) ∷ []) e.news (r ∷ []) (all_stay mid new whole own e.news later e.refuted)
              (both_landed mid new p left q th.0 whole r.0 c d l (refuted_stays old mid (only p) c left kept h) (refuted_stays old mid (only q) d th.0 kept k.0), tt));
        }

pub none_each : (log : Logged) (p q : Term) (whole : TermSet) (out rs : List ThmId) → EachWithEach log log p [] q rs whole out out
none_each log p q whole out rs [] ds h g = record { news = []; is = sym (append-nil out); refuted = tt }
none_each log p q whole out rs (c ∷ cs) ds h g = absurd h

pub each_more : (old mid new : Logged) (p q : Term) (whole : TermSet) (xs : List ThmId) (th : ThmId) (rs before between after : List ThmId) → Extends old mid → Extends mid new →
    WithEach mid new p th.0 q rs whole between after → EachWithEach old mid p xs q rs whole before between → EachWithEach old new p (xs ++ th ∷ []) q rs whole before after
each_more old mid new p q whole xs th rs before between after kept later one lands cs ds h g =
    let s = split old (only p) xs (th ∷ []) cs h in subst (λ z. Appended new whole (joined z ds) before after) (sym s.is) (at s.front s.first s.back s.second)
  where
    at : (front : Clauses) → AllRefuted old (only p) front xs → (b : Clauses) → AllRefuted old (only p) b (th ∷ []) → Appended new whole (joined (front ++ b) ds) before after
    at front f [] k = absurd k
    at front f (c ∷ (d ∷ es)) k = absurd k.1
    at front f (c ∷ []) k =
        let e = lands front ds f g in
        let a = one c ds (refuted_stays old mid (only p) c th.0 kept k.0) (all_stay old mid (only q) ds rs kept g) in
        record {
          news = e.news ++ a.news;
          is = a.is ∙ ap (λ z. z ++ a.news) e.is ∙ append_assoc before e.news a.news;
          refuted =
              subst (λ z. AllRefuted new whole z (e.news ++ a.news)) (sym (joined_more front c ds))
              (all_append new whole (joined front ds) (map (λ d. c ++ d) ds) e.news a.news (all_stay mid new whole (joined front ds) e.news later e.refuted) a.refuted);
        }

-- ---- a loop over theorems
pub record Landing (old mid : Logged) (claim : Type 0) : Type 0 where
  pub kept : Extends old mid
  pub facts : SameFacts old mid
  pub lands : claim

pub false_at : (log : Logged) (rs : List ThmId) (i : ℕ) (th : ThmId) → AllFalse log rs → i < length rs → th ≡ get_or rs i th → IsFalse log th.0
false_at log [] i th all within is = absurd (omega (arith, within))
false_at log (r ∷ rs) zero th all within is = subst (λ (z : ThmId). IsFalse log z.0) (sym is) all.0
false_at log (r ∷ rs) (suc i) th all within is = false_at log rs i th all.1 (omega (arith, within)) is

pub start : (log : Logged) (claim : Type 0) → claim → Landing log log claim
start log claim h = record { kept = extends_refl log; facts = refl; lands = h }

-- one more of a list's theorems
pub each_next : (old mid new : Logged) (part : Term) (whole : TermSet) (rs : List ThmId) (i : ℕ) (th r : ThmId) (before between after : List ThmId) → i < length rs → th ≡ get_or rs i th → after ≡ between ++ r ∷ [] →
    Extends mid new → SameFacts mid new → Lands mid new part th.0 whole r.0 → Landing old mid (EachLands old mid part (take i rs) whole before between) → Landing old new (EachLands old new part (take (i + 1) rs) whole before after)
each_next old mid new part whole rs i th r before between after within is pushed kept facts l h = record {
  kept = extends_trans old mid new h.kept kept;
  facts = facts ∙ h.facts;
  lands =
      subst (λ zs. EachLands old new part zs whole before after) (ap (λ z. take i rs ++ z ∷ []) is ∙ sym (take_more rs i th within))
      (landed_more old mid new part whole (take i rs) th r before between after pushed h.kept kept l h.lands);
}

pub with_next : (old mid new : Logged) (p : Term) (left : ℕ) (q : Term) (whole : TermSet) (rs : List ThmId) (i : ℕ) (th r : ThmId) (before between after : List ThmId) → i < length rs → th ≡ get_or rs i th → after ≡ between ++ r ∷ [] →
    Extends mid new → SameFacts mid new → BothLand mid new p left q th.0 whole r.0 → Landing old mid (WithEach old mid p left q (take i rs) whole before between) → Landing old new (WithEach old new p left q (take (i + 1) rs) whole before after)
with_next old mid new p left q whole rs i th r before between after within is pushed kept facts l h = record {
  kept = extends_trans old mid new h.kept kept;
  facts = facts ∙ h.facts;
  lands =
      subst (λ zs. WithEach old new p left q zs whole before after) (ap (λ z. take i rs ++ z ∷ []) is ∙ sym (take_more rs i th within))
      (with_more old mid new p left q whole (take i rs) th r before between after pushed h.kept kept l h.lands);
}

pub each_with_next : (old mid new : Logged) (p q : Term) (whole : TermSet) (ls rs : List ThmId) (i : ℕ) (th : ThmId) (before between after : List ThmId) → i < length ls → th ≡ get_or ls i th →
    Extends mid new → SameFacts mid new → WithEach mid new p th.0 q rs whole between after → Landing old mid (EachWithEach old mid p (take i ls) q rs whole before between) →
    Landing old new (EachWithEach old new p (take (i + 1) ls) q rs whole before after)
each_with_next old mid new p q whole ls rs i th before between after within is kept facts l h = record {
  kept = extends_trans old mid new h.kept kept;
  facts = facts ∙ h.facts;
  lands =
      subst (λ zs. EachWithEach old new p zs q rs whole before after) (ap (λ z. take i ls ++ z ∷ []) is ∙ sym (take_more ls i th within))
      (each_more old mid new p q whole (take i ls) th rs before between after h.kept kept l h.lands);
}

-- the theorem at a place of a list, as loops have it
abbrev pub at_place : List ThmId → ℕ → ThmId
at_place rs i = get_or rs i (record { 0 = 0 })

pub at_itself : (rs : List ThmId) (i : ℕ) → i < length rs → at_place rs i ≡ get_or rs i (at_place rs i)
at_itself [] i h = absurd (omega (arith, h))
at_itself (r ∷ rs) zero h = refl
at_itself (r ∷ rs) (suc i) h = at_itself rs i (omega (arith, h))
