-- `put_characters` calls itself with one less. Assumes nothing.
use Rattle.lei.proofs.+put_characters.Given as goal

abbrev pub decreases-put_characters : goal.decreases-put_characters
decreases-put_characters l = l.k
