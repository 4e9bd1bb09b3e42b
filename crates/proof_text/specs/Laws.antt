-- The text that a proof is read from.
use Rattle.std.specs.Prelude.{◌≡◌, ℕ, List, ◌++◌}
use Rattle.theory_reader.specs.declared.theory.Theory.{Theory}
use Rattle.proof_syntax.specs.declared.file.ProofFile.{ProofFile}
use Rattle.proof_syntax.specs.Reading.{Reads}
use Rattle.proof_syntax.specs.Texts.{proof_text}

-- what reads as a proof is the proof's one text, behind the lines that are passed over
abbrev pub OneText : Type 0
OneText = (t : Theory) (text : List ℕ) (p : ProofFile) (r : Reads t text p) → text ≡ r.before ++ proof_text t p.goal p.steps
