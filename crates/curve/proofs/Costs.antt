-- What a match costs fits its type.
use Rattle.std.proofs.Common.{ℕ, suc, ◌≤◌, ℤ, pos, negsuc, ◌*ℤ◌, neg_ℤ, ◌≤ℤ◌, arith, w32, SFits}
use Rattle.std.proofs.lemmas.Nat.{mul-le}
use Rattle.std.proofs.lemmas.Int.{ints}

pub record Small (z : ℤ) : Type 0 where
  pub low : neg_ℤ (pos 21474836480000000) ≤ℤ z
  pub high : z ≤ℤ pos 21474836480000000

pub cost_small : (p : ℕ) (m : ℤ) → p ≤ 10000000 → SFits w32 m → Small (pos p *ℤ m)
cost_small p (pos n) h f = let k = mul-le p n 10000000 2147483648 h (omega (arith, f.sfits)) in record { low = omega (arith, ints); high = omega (arith, ints) }
cost_small p (negsuc n) h f = let k = mul-le p (suc n) 10000000 2147483648 h (omega (arith, f.sfits)) in record { low = omega (arith, ints); high = omega (arith, ints) }
