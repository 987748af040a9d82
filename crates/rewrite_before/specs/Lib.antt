pub mod Materialized
