use Rattle.search_bench.proofs.reading.Words.+term.Given as goal

abbrev pub decreases-term : goal.decreases-term
decreases-term l = l.depth
