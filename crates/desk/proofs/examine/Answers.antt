-- `examine` has judged an order on a list, by the rows of its holdings. Assumes nothing.
use Rattle.std.proofs.Common.{refl, map}
use lib.ListN.{length-map}
use Rattle.holding.specs.Holding.{row_of}
use Rattle.desk.proofs.Listed.{listed}
use Rattle.desk.proofs.examine.Goals as goal

pub judge-requires-clause-listed : goal.judge-requires-clause-listed
judge-requires-clause-listed c =
    let ys = c.args.list.now in
    let long = length-map ys row_of in
    (map row_of ys, listed ys c.args.day.count (map row_of ys) long refl, long)

pub returns : goal.returns
returns c = record {
  fits = c.judge.ensures.fits;
  concluded = λ list long same.
      rw (← c.order_of.ensures) (c.judge.ensures.concluded list (listed c.args.list.now c.args.day.count list long same) long);
}
