pub mod MetricTypes
pub mod Expositions
