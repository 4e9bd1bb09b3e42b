-- No text has two answers.
use Rattle.std.proofs.Common.{◌≡◌, inl, inr, ℕ, zero, suc, ◌+◌, ◌<◌, ◌≤◌, List, [], ◌∷◌, ◌++◌, length, take, refl, sym, ap, subst, ◌∙◌, append_assoc, arith}
use Rattle.std.proofs.lemmas.Bool.{cases_order}
use Rattle.std.proofs.lemmas.List.{take_at, append_cancel_left}
use Rattle.std.specs.Prelude.{Result, Ok, Err}
use Rattle.first_fault.specs.Answers as answers
use Rattle.first_fault.specs.Answers.{Text, Syntax, TooDeep}
use Rattle.first_fault.proofs.Places as kit
use Rattle.theory_reader.specs.declared.theory.Theory.{Theory}
use Rattle.proof_syntax.specs.declared.file.ProofFile.{ProofFile}
use Rattle.proof_syntax.specs.declared.fault.ProofFault.{ProofFault}
use Rattle.proof_syntax.specs.declared.fault.ProofFault.TheVariants as fault
use Rattle.proof_syntax.specs.Tokens.{Tok, Word, Mark, cut, spelled}
use Rattle.proof_syntax.specs.Grammar.{Placed, IsProof, most}
use Rattle.proof_syntax.specs.Machine.{put, Whole, GoalWord, whole_step, whole_accepted}
use Rattle.proof_syntax.specs.Reading.{first_line, StartsBehind, GoesOn, Shares, Into, StopsAt, GoesBeyondAt, Reads, behind, Faulty, never_starts, stops, goes_beyond, Answer, Proof, Fault, IsAnswer, IsReadAs, OneAnswer, Tells}
use Rattle.proof_syntax.proofs.Whole.{whole_runs}

-- ---- how far into a word

take_less : (k n : ℕ) (v w : List ℕ) → k ≤ n → take n v ≡ take n w → take k v ≡ take k w
take_less zero n v w le e = refl
take_less (suc k) zero v w le e = absurd (omega arith)
take_less (suc k) (suc n) [] [] le e = refl
take_less (suc k) (suc n) [] (y ∷ w) le e = cc
take_less (suc k) (suc n) (x ∷ v) [] le e = cc
take_less (suc k) (suc n) (x ∷ v) (y ∷ w) le e =
    let head : x ≡ y = cc in
    let tail : take n v ≡ take n w = cc in
    ap (λ z. z ∷ take k v) head ∙ ap (λ zs. y ∷ zs) (take_less k n v w (omega arith) tail)

same_rest : (p q : List Placed) (xs ys : List Tok) → put p xs ≡ put q ys → length p ≡ length q → (xs ≡ ys) × ((zs : List Tok) → put p zs ≡ put q zs)
same_rest [] [] xs ys e count = (e, λ zs. refl)
same_rest [] (y ∷ q) xs ys e count = absurd (omega arith)
same_rest (x ∷ p) [] xs ys e count = absurd (omega arith)
same_rest (x ∷ p) (y ∷ q) xs ys e count =
    let head : x.tok ≡ y.tok = cc in
    let tail : put p xs ≡ put q ys = cc in
    let more = same_rest p q xs ys tail (omega arith) in
    (more.0, λ zs. ap (λ z. z ∷ put p zs) head ∙ ap (λ all. y.tok ∷ all) (more.1 zs))

module _ (t : Theory) (p q : List Placed) (same : (zs : List Tok) → put p zs ≡ put q zs) where
  on_too : (x : Tok) → GoesOn t p x → GoesOn t q x
  on_too x g = (g.0, g.1, g.2, g.3, g.4 ∙ same (x ∷ g.2))

  no_less : (w : List ℕ) (m n : ℕ) → Shares t q w m → Shares t p w n → m < n → ⊥
  no_less w m n g h less = elim h.some [
    | inl none ↦ omega arith
    | inr s ↦ g.most s.0 (on_too (Word s.0) s.1) (take_less (m + 1) n s.0 w (omega arith) s.2)
  ]

same_into : (t : Theory) (p q : List Placed) (rest : List Tok) (m n : ℕ) → ((zs : List Tok) → put p zs ≡ put q zs) → Into t p rest m → Into t q rest n → m ≡ n
same_into t p q [] m n same g h = g ∙ sym h
same_into t p q (Mark s ∷ rest) m n same g h = g ∙ sym h
same_into t p q (Word w ∷ rest) m n same g h = elim (cases_order m n) [
  | inl e ↦ e
  | inr (inl less) ↦ absurd (no_less t q p (λ zs. sym (same zs)) w m n g h less)
  | inr (inr more) ↦ absurd (no_less t p q same w n m h g more)
]

-- ---- one body

module _ (t : Theory) (body : List ℕ) where
  only : (a b : answers.Answer ProofFile) → answers.IsAnswer Tok ProofFile (IsProof t) most (cut body) a → answers.IsAnswer Tok ProofFile (IsProof t) most (cut body) b → a ≡ b
  only = kit.one_answer Tok Whole ProofFile (whole_step t) whole_accepted GoalWord (IsProof t) (λ p v d. whole_runs d) most (cut body)

  one_proof : (v w : ProofFile) → answers.Reads Tok ProofFile (IsProof t) most (cut body) v → answers.Reads Tok ProofFile (IsProof t) most (cut body) w → v ≡ w
  one_proof v w g h = let e = only (Text v) (Text w) g h in cc

  no_stop : (v : ProofFile) (at : ℕ) → answers.Reads Tok ProofFile (IsProof t) most (cut body) v → StopsAt t body at → ⊥
  no_stop v at g h = let e = only (Text v) (Syntax h.place) g h.found in cc

  none_beyond : (v : ProofFile) (at : ℕ) → answers.Reads Tok ProofFile (IsProof t) most (cut body) v → GoesBeyondAt t body at → ⊥
  none_beyond v at g h = let e = only (Text v) (TooDeep h.place) g h.found in cc

  not_both : (i j : ℕ) → StopsAt t body i → GoesBeyondAt t body j → ⊥
  not_both i j g h = let e = only (Syntax g.place) (TooDeep h.place) g.found h.found in cc

  one_beyond : (i j : ℕ) → GoesBeyondAt t body i → GoesBeyondAt t body j → i ≡ j
  one_beyond i j g h =
      let e = only (TooDeep g.place) (TooDeep h.place) g.found h.found in
      let same : g.place ≡ h.place = cc in
      g.is ∙ ap (λ n. length (spelled (take n (cut body)))) same ∙ sym h.is

  one_stop : (i j : ℕ) → StopsAt t body i → StopsAt t body j → i ≡ j
  one_stop i j g h =
      let e = only (Syntax g.place) (Syntax h.place) g.found h.found in
      let place : g.place ≡ h.place = cc in
      let count = g.found.count ∙ place ∙ sym h.found.count in
      let same = same_rest g.found.before h.found.before g.found.rest h.found.rest (sym g.found.tokens ∙ h.found.tokens) count in
      let into = same_into t g.found.before h.found.before h.found.rest g.into h.into same.1 (subst (λ r. Into t g.found.before r g.into) same.0 g.is_into) h.is_into in
      g.is ∙ ap (λ n. length (spelled (take n (cut body))) + g.into) place ∙ ap (λ n. length (spelled (take h.place (cut body))) + n) into ∙ sym h.is

-- ---- one start

same_front : (text b y c z : List ℕ) → text ≡ b ++ first_line ++ y → text ≡ c ++ first_line ++ z → length b ≡ length c → (b ≡ c) × (y ≡ z)
same_front text b y c z g h count =
    let whole : text ≡ b ++ (first_line ++ y) = g ∙ append_assoc b first_line y in
    let other : text ≡ c ++ (first_line ++ z) = h ∙ append_assoc c first_line z in
    let front : b ≡ c = sym (take_at b (first_line ++ y) (length b) refl) ∙ ap (λ xs. take (length b) xs) (sym whole ∙ other) ∙ take_at c (first_line ++ z) (length b) (sym count) in
    let rest : first_line ++ y ≡ first_line ++ z = append_cancel_left c (first_line ++ y) (first_line ++ z) (ap (λ x. x ++ (first_line ++ y)) (sym front) ∙ sym whole ∙ other) in
    (front, append_cancel_left first_line y z rest)

one_start : (text b y c z : List ℕ) → StartsBehind text b y → StartsBehind text c z → (b ≡ c) × (y ≡ z)
one_start text b y c z g h =
    let low = g.earliest c z h.is h.lines in
    let high = h.earliest b y g.is g.lines in
    same_front text b y c z g.is h.is (omega arith)

-- ---- one text

module _ (t : Theory) (text : List ℕ) where
  one_fault : {i j : ℕ} → Faulty t text i → Faulty t text j → i ≡ j
  one_fault (never_starts n) (never_starts m) = refl
  one_fault (never_starts n) (stops s f) = absurd (n _ _ s.is s.lines)
  one_fault (never_starts n) (goes_beyond s f) = absurd (n _ _ s.is s.lines)
  one_fault (stops s f) (never_starts n) = absurd (n _ _ s.is s.lines)
  one_fault (goes_beyond s f) (never_starts n) = absurd (n _ _ s.is s.lines)
  one_fault (stops {before = b} {body = y} {at = i} s f) (stops {before = c} {body = z} {at = j} r g) =
      let same = one_start text b y c z s r in
      let place = one_stop t z i j (subst (λ x. StopsAt t x i) same.1 f) g in
      ap (λ x. behind x i) same.0 ∙ ap (λ n. behind c n) place
  one_fault (stops {before = b} {body = y} {at = i} s f) (goes_beyond {before = c} {body = z} {at = j} r g) =
      let same = one_start text b y c z s r in absurd (not_both t z i j (subst (λ x. StopsAt t x i) same.1 f) g)
  one_fault (goes_beyond {before = b} {body = y} {at = i} s f) (stops {before = c} {body = z} {at = j} r g) =
      let same = one_start text b y c z s r in absurd (not_both t z j i g (subst (λ x. GoesBeyondAt t x i) same.1 f))
  one_fault (goes_beyond {before = b} {body = y} {at = i} s f) (goes_beyond {before = c} {body = z} {at = j} r g) =
      let same = one_start text b y c z s r in
      let place = one_beyond t z i j (subst (λ x. GoesBeyondAt t x i) same.1 f) g in
      ap (λ x. behind x i) same.0 ∙ ap (λ n. behind c n) place

  proof_or_fault : {i : ℕ} (v : ProofFile) → Reads t text v → Faulty t text i → ⊥
  proof_or_fault v r (never_starts n) = n _ _ r.starts.is r.starts.lines
  proof_or_fault v r (stops {before = b} {body = y} {at = i} s f) =
      let same = one_start text b y r.before r.body s r.starts in no_stop t r.body v i r.read (subst (λ x. StopsAt t x i) same.1 f)
  proof_or_fault v r (goes_beyond {before = b} {body = y} {at = i} s f) =
      let same = one_start text b y r.before r.body s r.starts in none_beyond t r.body v i r.read (subst (λ x. GoesBeyondAt t x i) same.1 f)

  pub one_answer : (a b : Answer) → IsAnswer t text a → IsAnswer t text b → a ≡ b
  one_answer (Proof v) (Proof w) r s =
      let same = one_start text r.before r.body s.before s.body r.starts s.starts in
      ap Proof (one_proof t s.body v w (subst (λ x. answers.Reads Tok ProofFile (IsProof t) most (cut x) v) same.1 r.read) s.read)
  one_answer (Proof v) (Fault j) r s = absurd (proof_or_fault v r s)
  one_answer (Fault i) (Proof w) r s = absurd (proof_or_fault w s r)
  one_answer (Fault i) (Fault j) r s = ap Fault (one_fault r s)

-- what a reader answers is the one answer that the text has
pub only_answer : OneAnswer → (t : Theory) (text : List ℕ) (r : Result ProofFile ProofFault) → IsReadAs t text r → (a : Answer) → IsAnswer t text a → Tells a r
only_answer law t text (Ok p) h a is = law t text a (Proof p) is h
only_answer law t text (Err (fault.At at)) h a is = law t text a (Fault at) is h
only_answer law t text (Err fault.NoMemory) h a is = tt

pub told : (t : Theory) (text : List ℕ) (r : Result ProofFile ProofFault) → IsReadAs t text r → (a : Answer) → IsAnswer t text a → Tells a r
told = only_answer one_answer
