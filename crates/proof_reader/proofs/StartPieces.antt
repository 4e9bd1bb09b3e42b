-- Where the body begins.
use Rattle.std.proofs.Common.{◌≡◌, inl, inr, ℕ, suc, ◌+◌, ◌-◌, ◌<◌, ◌≤◌, ◌==◌, true, List, [], ◌∷◌, ◌++◌, length, take, drop, get_or, Some, None, refl, sym, ap, append_assoc, add-one, ◌∙◌, arith, rules, length-append}
use Rattle.std.proofs.lemmas.Bool.{cases_lt}
use Rattle.std.proofs.lemmas.List.{take_rest, length-take-le, get_or-take}
use Rattle.std.proofs.Math.Seq.{split_at, get_or-append_seam}
use Rattle.memchr.specs.Find.{IsFirstByte, is_byte}
use Rattle.proof_syntax.specs.Reading.{first_line, AreLines, NeverStarts}
use Rattle.proof_reader.specs.inner.Start.{IsBody, NoLineEnd, IsBehindLine}

-- ---- the line at the front

seam_is : (text front rest : List ℕ) → text ≡ front ++ 10 ∷ rest → (get_or text (length front) 0 == 10) ≡ true
seam_is text front rest e =
    let is = ap (λ (t : List ℕ). get_or t (length front) 0) e ∙ get_or-append_seam front 10 rest 0 in
    ap (λ b. b == 10) is

seam_within : (text front rest : List ℕ) → text ≡ front ++ 10 ∷ rest → length front < length text
seam_within text front rest e = let all = ap (λ (t : List ℕ). length t) e ∙ length-append front (10 ∷ rest) in omega arith

pub no_end : (text : List ℕ) → IsFirstByte (is_byte 10) text None → NoLineEnd text
no_end text h = λ front rest e. h (length front) (omega arith) (seam_within text front rest e) (seam_is text front rest e)

pub behind_end : (text : List ℕ) (at : ℕ) → IsFirstByte (is_byte 10) text (Some at) → IsBehindLine text (take (length text - (at + 1)) (drop (at + 1) text))
behind_end text at h =
    let high : at < length text = h.0.high in
    let found : (get_or text at 0 == 10) ≡ true = h.1 in
    let ten : get_or text at 0 ≡ 10 = search (rules, found) in
    let cut_there = split_at text at 0 high ∙ ap (λ b. take at text ++ b ∷ drop (suc at) text) ten in
    let behind = take_rest text (at + 1) ∙ ap (λ n. drop n text) (add-one at) in
    let low : at ≤ length text = omega arith in
    let size = length-take-le at text low in
    record {
      line = take at text;
      is = cut_there ∙ ap (λ r. take at text ++ 10 ∷ r) (sym behind);
      unbroken = λ front rest e.
          let less : length front < at = let within = seam_within (take at text) front rest e in omega arith in
          let same = get_or-take at text (length front) 0 less in
          let seam = ap (λ b. b == 10) (sym same) ∙ seam_is (take at text) front rest e in
          h.0.before (length front) (omega arith) less seam;
    }

-- ---- two beginnings of one list

split_front : (p q a b : List ℕ) → p ++ a ≡ q ++ b → length p ≤ length q → (r : List ℕ) × (q ≡ p ++ r) × (a ≡ r ++ b)
split_front [] q a b e short = (q, refl, e)
split_front (x ∷ p) [] a b e short = absurd (omega arith)
split_front (x ∷ p) (y ∷ q) a b e short =
    let same : x ≡ y = cc in
    let tail : p ++ a ≡ q ++ b = cc in
    let r = split_front p q a b tail (omega arith) in
    (r.0, ap (λ z. z ∷ q) (sym same) ∙ ap (λ zs. x ∷ zs) r.1, r.2)

same_length : (p q a b : List ℕ) → p ++ a ≡ q ++ b → length p ≡ length q → a ≡ b
same_length p q a b e same =
    let short : length p ≤ length q = omega arith in
    let r = split_front p q a b e short in
    let sizes = ap (λ (t : List ℕ). length t) r.1 ∙ length-append p r.0 in
    let none : length r.0 ≡ 0 = omega arith in
    r.2 ∙ empty r.0 none
  where
    empty : (r : List ℕ) → length r ≡ 0 → r ++ b ≡ b
    empty [] none = refl
    empty (x ∷ r) none = absurd (omega arith)

-- a line's end stands no earlier than that of the line at the front
first_end : (line behind g more : List ℕ) → line ++ 10 ∷ behind ≡ g ++ 10 ∷ more → NoLineEnd line → length line ≤ length g
first_end line behind g more e unbroken = elim (cases_lt (length g) (length line)) [
  | inl less ↦
      let short : length g ≤ length line = omega arith in
      let r = split_front g line (10 ∷ more) (10 ∷ behind) (sym e) short in
      let sizes = ap (λ (t : List ℕ). length t) r.1 ∙ length-append g r.0 in
      let some : 0 < length r.0 = omega arith in
      absurd (broken r.0 r.1 r.2 some)
  | inr more ↦ more
]
  where
    broken : (r : List ℕ) → line ≡ g ++ r → 10 ∷ more ≡ r ++ 10 ∷ behind → 0 < length r → ⊥
    broken [] is f some = omega arith
    broken (x ∷ r) is f some = let ten : x ≡ 10 = cc in unbroken g r (is ∙ ap (λ z. g ++ z ∷ r) ten)

-- ---- lines that are passed over

pub record Passed (text rest : List ℕ) : Type 0 where
  pub front : List ℕ
  pub is : text ≡ front ++ rest
  pub lines : AreLines front
  pub earliest : (before body : List ℕ) → text ≡ before ++ first_line ++ body → AreLines before → length front ≤ length before

pub begins : (text : List ℕ) → Passed text text
begins text = record { front = []; is = refl; lines = inl refl; earliest = λ before body e lines. omega arith }

abbrev Starts : List ℕ → Type 0
Starts rest = (body : List ℕ) → rest ≡ first_line ++ body → ⊥

-- the proof doesn't begin in this line, so it begins behind a line's end that is still to come
record Later (rest before : List ℕ) (front : List ℕ) : Type 0 where
  pub line : List ℕ
  pub more : List ℕ
  pub is : rest ≡ line ++ 10 ∷ more
  pub size : length before ≡ length front + length line + 1

module _ (text rest : List ℕ) (p : Passed text rest) (not_here : Starts rest) where
  later : (before body : List ℕ) → text ≡ before ++ first_line ++ body → AreLines before → Later rest before p.front
  later before body e lines = elim (cases_lt (length p.front) (length before)) [
    | inl less ↦ behind less lines
    | inr more ↦
        let low = p.earliest before body e lines in
        let same : length p.front ≡ length before = omega arith in
        absurd (not_here body (same_length p.front before rest (first_line ++ body) (sym p.is ∙ e ∙ append_assoc before first_line body) same))
  ]
    where
      behind : length p.front < length before → AreLines before → Later rest before p.front
      behind less (inl none) = let size = ap (λ (t : List ℕ). length t) none in absurd (omega arith)
      behind less (inr ends) =
          let size = ap (λ (t : List ℕ). length t) ends.1 ∙ length-append ends.0 (10 ∷ []) in
          let short : length p.front ≤ length ends.0 = omega arith in
          let whole = sym p.is ∙ e ∙ append_assoc before first_line body ∙ ap (λ t. t ++ (first_line ++ body)) ends.1 ∙ append_assoc ends.0 (10 ∷ []) (first_line ++ body) in
          let r = split_front p.front ends.0 rest (10 ∷ first_line ++ body) whole short in
          let sizes = ap (λ (t : List ℕ). length t) r.1 ∙ length-append p.front r.0 in
          record { line = r.0; more = first_line ++ body; is = r.2; size = omega arith }

  pub never : NoLineEnd rest → NeverStarts text
  never none = λ before body e lines. let l = later before body e lines in none l.line l.more l.is

  pub passes : (behind : List ℕ) → IsBehindLine rest behind → Passed text behind
  passes behind h = record {
    front = p.front ++ h.line ++ 10 ∷ [];
    is = p.is ∙ ap (λ t. p.front ++ t) h.is ∙ sym (append_assoc p.front h.line (10 ∷ behind)) ∙ sym (append_assoc (p.front ++ h.line) (10 ∷ []) behind);
    lines = inr (p.front ++ h.line, refl);
    earliest = λ before body e lines.
        let l = later before body e lines in
        let low = first_end h.line behind l.line l.more (sym h.is ∙ l.is) h.unbroken in
        let size = length-append (p.front ++ h.line) (10 ∷ []) in
        let front_size = length-append p.front h.line in
        let all = l.size in
        omega arith;
  }

pub found : (text rest body : List ℕ) → Passed text rest → rest ≡ first_line ++ body → IsBody text body
found text rest body p e = (
  p.front,
  record { is = p.is ∙ ap (λ t. p.front ++ t) e ∙ sym (append_assoc p.front first_line body); lines = p.lines; earliest = p.earliest },
)

pub shorter : (rest behind : List ℕ) → IsBehindLine rest behind → length behind < length rest
shorter rest behind h = let all = ap (λ (t : List ℕ). length t) h.is ∙ length-append h.line (10 ∷ behind) in omega arith
