pub mod Exporter
