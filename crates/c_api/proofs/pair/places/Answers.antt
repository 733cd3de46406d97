-- `places` meets its contract: each place has the word of its number.
-- Assumes nothing.
use Rattle.std.proofs.Common.{rules, ◌≡◌, refl}
use Rattle.c_api.proofs.PairLaws.{made_of}
use Rattle.c_api.proofs.pair.places.Goals as goal

pub returns : goal.returns
returns c =
    made_of _ (λ p. p.0 ≡ c.args.fifo) c.args.fifo.now (λ p q i r s k. search rules) 16 _ _ refl c.from_fn.ensures.items
