-- Counting over the numbers below n: some, every, how many, the last that, the greatest (Words), ranks, and each (Each), which is
-- what a loop over them leaves. Nothing of the product.
pub mod Each
pub mod Laws
pub mod Words
