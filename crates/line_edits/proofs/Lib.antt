pub mod ExchangeLemmas
pub mod PlainLemmas
pub mod RingLemmas
pub mod StepLemmas
pub mod StopLaws
pub mod WrittenLemmas
